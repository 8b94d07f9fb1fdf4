pub mod Kept
pub mod Listens
