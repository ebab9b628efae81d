pub mod Kinds
pub mod Standard
