-- Quotients rounded down and up: by their inequalities, at two scales, and how large they are.
mod Floors
mod ByZero
mod Scales
mod Magnitudes
pub use Rattle.interval_specs.proofs.Rounds.Floors.{floor_greatest, ceil_least, floor_is, div_euclid_is, ceil_here, ceil_next, floor_mono, ceil_mono, floor_far, floor_near_0, ceil_far, ceil_near_0, floor_of_natural, ceil_of_natural}
pub use Rattle.interval_specs.proofs.Rounds.ByZero.{floor_by_zero, ceil_by_zero}
pub use Rattle.interval_specs.proofs.Rounds.Scales.{floor_encloses, ceil_encloses, floor_le_ceil, floor_finer, ceil_finer}
pub use Rattle.interval_specs.proofs.Rounds.Magnitudes.{by_magnitude, floor_small, ceil_small, floor_turned}
