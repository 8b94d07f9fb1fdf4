pub mod CommitForms
pub mod Whole
