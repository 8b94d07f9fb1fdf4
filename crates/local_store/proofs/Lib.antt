pub mod Committed
pub mod Opened
pub mod Replayed
