pub mod Accepted
pub mod Either
mod Steps
