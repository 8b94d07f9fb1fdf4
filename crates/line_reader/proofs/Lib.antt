pub mod Answered
pub mod Checked
pub mod Lined
pub mod OneReading
pub mod Targets
pub mod OnePass
