pub mod Images
pub mod Memories
pub mod Moves
pub mod Notes
pub mod Parts
pub mod Pasts
pub mod Picks
pub mod Spans
