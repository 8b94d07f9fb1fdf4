pub mod Free
pub mod Once
pub mod Rootless
pub mod Digits
pub mod Read
