pub mod Additions
pub mod Order
pub mod Rounds
pub mod Roots
pub mod Held
pub mod Ranges
pub mod Laws
