pub mod Listing
pub mod Maps
pub mod Tables
