pub mod Buffer
pub mod Effects
pub mod Points
pub mod Standing
pub mod Steps
pub mod Told
