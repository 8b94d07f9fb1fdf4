pub mod Laws
pub mod Rising
pub mod Settled
pub mod Shown
