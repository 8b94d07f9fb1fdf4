pub mod Again
pub mod FilterForms
pub mod Parts
