pub mod Faults
pub mod KeySet
pub mod Laws
pub mod Names
pub mod Order
pub mod Paths
pub mod Reader
pub mod Texts
