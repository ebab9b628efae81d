pub mod Ratios
pub mod Laws
