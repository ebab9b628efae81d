-- The laws of all operations, and what follows from enclosing and from a decided test alone.
mod Enclosing
mod Ratios
mod Sums
mod Choices
mod Products
mod Quotients
mod Magnitudes
mod Roots
mod Decisions
pub use Rattle.interval_specs.proofs.Laws.Enclosing.{outer_ordered, encloses_trans, included, inclusion_low, inclusion_high, encloses_itself, nothing_encloses, one_encloses, low_not_negative}
pub use Rattle.interval_specs.proofs.Laws.Ratios.{ratio_encloses, fraction_encloses, none_of}
pub use Rattle.interval_specs.proofs.Laws.Sums.{sum_encloses, difference_encloses, multiple_encloses}
pub use Rattle.interval_specs.proofs.Laws.Choices.{cut_low_encloses, cut_high_encloses, hull_encloses, hull_first, hull_second}
pub use Rattle.interval_specs.proofs.Laws.Products.{products_ordered, product_encloses}
pub use Rattle.interval_specs.proofs.Laws.Quotients.{quotients_ordered, quotient_encloses, quotient_lower, quotient_upper, quotient_by_nothing_encloses}
pub use Rattle.interval_specs.proofs.Laws.Magnitudes.{least_magnitude_above, least_magnitude_small, absolute_encloses, square_encloses, absolute_above, absolute_below, absolute_around, square_by_magnitude}
pub use Rattle.interval_specs.proofs.Laws.Roots.{sqrt_encloses, cbrt_encloses}
pub use Rattle.interval_specs.proofs.Laws.Decisions.{lt_test, le_test, le_holds, lt_holds, le_refuses, lt_refuses, both_hold, still_from, still_below, still_not_above_0, choice_encloses}
