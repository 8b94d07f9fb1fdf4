pub mod ChangeTypes
pub mod Faults
pub mod Grammar
pub mod Laws
pub mod Parts
pub mod Printed
pub mod Storable
