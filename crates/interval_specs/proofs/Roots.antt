-- Roots by their inequalities, and at two scales.
mod Powers
mod Scales
pub use Rattle.interval_specs.proofs.Roots.Powers.{IsPower, square_power, cube_power, below_fits, below_greatest, above_fits, above_least, below_is, above_is, below_le_above}
pub use Rattle.interval_specs.proofs.Roots.Scales.{sqrt_low, sqrt_high, cbrt_low, cbrt_high, low_magnitude, high_magnitude, not_below, as_whole, as_whole_above, magnitudes_in_order, magnitudes_rise, ordered_roots, sqrt_magnitude, cbrt_magnitude}
