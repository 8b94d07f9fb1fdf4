pub mod Acked
pub mod Laws
