pub mod Built
pub mod Trees
pub mod Beside
pub mod Updates
pub mod Parts
pub mod Changes
