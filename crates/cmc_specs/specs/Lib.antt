pub mod Cmc
pub mod Laws
