pub mod Buffer
pub mod Calls
pub mod Incarnations
pub mod Laws
pub mod ToldKeys
pub mod Transcript
