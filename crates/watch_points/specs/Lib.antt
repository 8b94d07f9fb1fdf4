pub mod PointCommit
pub mod SpelledCalls
pub mod Steps
