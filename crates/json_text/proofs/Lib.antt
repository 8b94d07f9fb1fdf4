pub mod Adding
pub mod Left
