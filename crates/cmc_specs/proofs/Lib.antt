pub mod Law
pub mod Ranges
mod Shares
mod UnitRanges
mod LeastValues
mod Magnitudes
mod TermRanges
mod PartLaws
mod HueLaws
mod StandardLaw
