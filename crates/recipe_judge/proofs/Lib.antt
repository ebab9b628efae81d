mod FewItems
mod Limits
pub mod Waves
pub mod Boxes
pub mod FinerLaw
pub mod GridBoxes
pub mod NarrowLaw
mod LightVerdicts
mod Kept
mod LightTurns
mod Lawful
