-- The whole numbers: their ring and their order, and the least and the greatest of a few.
mod Products
mod Extremes
pub use Rattle.interval_specs.proofs.Order.Products.{parts, by_parts, to_parts, mono_left, cancel_left, trans_ℤ, add_mono_ℤ, sub_mono_ℤ, neg_mono_ℤ, refl_ℤ, antisym_ℤ, to_parts_lt, by_parts_lt, magnitude_is, magnitude_positive, mul-add_ℤ, mul-neg_ℤ, mul_swap_ℤ, between_low, between_high, corner_low, corner_high, mono_by, wider, narrower, wide_left, times_positive, times_negative, le_pos, up_small, down_small}
pub use Rattle.interval_specs.proofs.Order.Extremes.{either_max, either_min, max_left, max_right, min_left, min_right, least_first, least_second, least_third, least_fourth, greatest_first, greatest_second, greatest_third, greatest_fourth, any_least, any_greatest, least_of_lower, greatest_of_upper, min_first, min_second, max_first, max_second, least_corner, greatest_corner}
