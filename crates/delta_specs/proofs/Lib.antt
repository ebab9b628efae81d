pub mod Law
pub mod Ranges
