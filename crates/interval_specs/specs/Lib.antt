pub mod Ends
pub mod Rounding
pub mod Operations
pub mod Encloses
pub mod Laws
pub mod Ranges
pub mod Roots
