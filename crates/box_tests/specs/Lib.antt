pub mod Certs
pub mod Ladder
