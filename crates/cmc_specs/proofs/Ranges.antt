-- The ranges of the values of the difference: their greatest magnitudes, and the least values of
-- the divisors.
pub use Rattle.cmc_specs.proofs.UnitRanges.{share_up_to, hue_share_up_to, cosine_magnitude_up_to}
pub use Rattle.cmc_specs.proofs.LeastValues.{lightness_weight_at_least, chroma_weight_at_least, hue_factor_at_least, hue_weight_at_least, hue_weight_square_at_least, lightness_divisor_at_least, chroma_divisor_at_least}
pub use Rattle.cmc_specs.proofs.Magnitudes.{bracket_up_to, high_weight_up_to, low_weight_up_to, lightness_weight_up_to, chroma_gain_up_to, chroma_weight_up_to, first_form_up_to, second_form_up_to, rest_up_to, hue_weight_up_to, part_magnitude, projection_magnitude, projection_difference_magnitude}
pub use Rattle.cmc_specs.proofs.TermRanges.{lightness_term_magnitude, chroma_term_magnitude, hue_term_up_to}
