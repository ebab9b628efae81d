pub mod Law
pub mod Ranges
pub mod Rooms
mod Terms
