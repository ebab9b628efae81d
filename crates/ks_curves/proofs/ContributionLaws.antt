-- The laws of K/S, of the value of a calibration, of a contribution and of an addition: in the
-- scale, and in the range of units; and that the denominator of a slope is above 0.
mod Additions
mod Line
mod Values
pub use Rattle.ks_curves.proofs.BrokenLaws.{ks_encloses}
pub use Rattle.ks_curves.proofs.ContributionLaws.Additions.{addition_encloses, addition_narrows, addition_alone, line_addition, no_addition, broken_addition}
pub use Rattle.ks_curves.proofs.ContributionLaws.Line.{numerator_not_negative, numerator_ordered, line_narrows}
pub use Rattle.ks_curves.proofs.ContributionLaws.Values.{value_encloses, value_narrows, value_not_negative, contribution_encloses, contribution_narrows, contribution_not_negative}
pub use Rattle.ks_curves.proofs.Values.{units_under_squares, squares_positive}
