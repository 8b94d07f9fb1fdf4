pub mod Lent
pub mod LocalDocument
pub mod Table
