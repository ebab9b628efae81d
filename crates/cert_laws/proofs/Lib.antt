pub mod Searched
mod Sizes
mod Spelled
