pub mod Line
pub mod PlaceList
pub mod Places
pub mod Queue
