pub mod Reflectance
pub mod Base
pub mod Mixture
pub mod Narrowing
pub mod Sums
pub mod Strength
pub mod Laws
pub mod Samples
