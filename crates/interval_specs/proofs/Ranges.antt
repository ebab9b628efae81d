-- The range of each result, from the ranges of its inputs. The numbers k, j and r are bounds in
-- units of the scale.
mod Words
mod Sums
mod Products
mod Quotients
mod Choices
mod Roots
mod LowerBounds
pub use Rattle.interval_specs.proofs.Ranges.Words.{magnitude_by, lo_small, hi_small, held, of_held, magnitude_of_held, magnitude_wider, up_to_wider, magnitude_of_up_to, carry_magnitude, carry_up_to, rounded_magnitude, floor_not_negative, product_small}
pub use Rattle.interval_specs.proofs.Ranges.Sums.{ratio_up_to, one_up_to, one_magnitude, sum_magnitude, sum_not_negative, sum_positive, sum_up_to, difference_magnitude, difference_within}
pub use Rattle.interval_specs.proofs.Ranges.Products.{multiple_magnitude, multiple_up_to, fraction_magnitude, fraction_not_negative, fraction_up_to, product_magnitude, product_up_to, square_magnitude, square_not_negative, square_up_to, absolute_up_to}
pub use Rattle.interval_specs.proofs.Ranges.Quotients.{quotient_magnitude, quotient_not_negative, quotient_up_to}
pub use Rattle.interval_specs.proofs.Ranges.Choices.{cut_low_magnitude, cut_low_not_negative, cut_low_up_to, cut_high_magnitude, hull_magnitude, hull_up_to}
pub use Rattle.interval_specs.proofs.Ranges.Roots.{sqrt_not_negative, cbrt_not_negative, sqrt_up_to, cbrt_up_to, sqrt_at_least}
pub use Rattle.interval_specs.proofs.Ranges.LowerBounds.{positive, low_magnitude_at_least, magnitude_from, floor_at_least, ratio_at_least, sum_begins, tenths_at_least, product_at_least, square_at_least, choice_at_least}
