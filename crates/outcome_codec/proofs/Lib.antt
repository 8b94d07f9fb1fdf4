pub mod Adjacents
pub mod OutcomeForms
