pub mod Listed
pub mod Placing
pub mod Tables
pub mod Writes
