pub mod Parts
pub mod Chroma
pub mod Laws
