pub mod Listing
pub mod Orders
pub mod Ranges
pub mod Tables
