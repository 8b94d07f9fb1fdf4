pub mod Lists
pub mod Listed
pub mod Put
pub mod Missed
pub mod Gets
pub mod TargetRows
pub mod Once
pub mod Spelled
