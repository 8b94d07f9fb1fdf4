pub mod Composites
pub mod Finding
pub mod Growing
pub mod Targets
