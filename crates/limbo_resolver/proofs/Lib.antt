pub mod Filling
pub mod Members
pub mod Order
pub mod Pairs
pub mod Sound
pub mod Updated
