pub mod Documents
pub mod Files
pub mod State
pub mod Store
