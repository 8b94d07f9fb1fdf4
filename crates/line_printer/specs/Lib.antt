pub mod Begun
pub mod Lines
pub mod Reported
pub mod Trees
