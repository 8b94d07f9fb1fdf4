pub mod Ids
pub mod LiveLaw
pub mod ToldLaw
