pub mod Held
pub mod Laws
pub mod Marks
pub mod Ready
pub mod Result
pub mod Walk
