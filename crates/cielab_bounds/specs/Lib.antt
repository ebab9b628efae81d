pub mod Cielab
pub mod Laws
pub mod Formula
pub mod Lab
