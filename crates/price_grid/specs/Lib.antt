pub mod Cost
pub mod Grid
pub mod Laws
pub mod Limits
pub mod Order
pub mod Sums
pub mod Words
