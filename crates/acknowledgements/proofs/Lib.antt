pub mod Acks
pub mod Pairs
pub mod Steps
pub mod Times
