pub mod Concerns
pub mod Ids
pub mod Laws
pub mod Places
pub mod Refreshing
pub mod Table
pub mod Targets
