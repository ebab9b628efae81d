pub mod Standard
pub mod Quotients
