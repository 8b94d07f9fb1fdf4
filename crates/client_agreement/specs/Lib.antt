pub mod Durable
pub mod Transcript
pub mod Honest
pub mod Standing
pub mod Laws
pub mod FirstSync
pub mod LimboListens
