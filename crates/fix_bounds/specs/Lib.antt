pub mod CanRound
pub mod Ratios
pub mod Scales
