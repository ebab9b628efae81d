-- The operations on intervals. Where a result is rounded, the lower end is rounded down and the
-- upper end up, once. They are stated at every scale n, over numbers without bound.
use Rattle.std.specs.Prelude.{ℕ, ℤ, pos, ◌*◌, ◌+ℤ◌, ◌-ℤ◌, ◌*ℤ◌, Bool, min, ◌&&◌, int_le, if◌then◌else◌, unsigned_abs}
use Rattle.std.specs.Int.{int_min, int_max}
use Rattle.interval_specs.specs.Ends.{Ends, magnitude_of}
use Rattle.interval_specs.specs.Rounding.{floor_over, ceil_over}

-- p / q, at scale n
unfoldable pub ratio_at : ℕ → ℤ → ℕ → Ends
ratio_at n p q = record { lo = floor_over (p *ℤ pos n) q; hi = ceil_over (p *ℤ pos n) q }

-- a + b
unfoldable pub sum_of : Ends → Ends → Ends
sum_of a b = record { lo = a.lo +ℤ b.lo; hi = a.hi +ℤ b.hi }

-- a - b
unfoldable pub difference_of : Ends → Ends → Ends
difference_of a b = record { lo = a.lo -ℤ b.hi; hi = a.hi -ℤ b.lo }

-- the least of four numbers
abbrev pub least_of_four : ℤ → ℤ → ℤ → ℤ → ℤ
least_of_four p q r s = int_min (int_min p q) (int_min r s)

-- the greatest of four numbers
abbrev pub greatest_of_four : ℤ → ℤ → ℤ → ℤ → ℤ
greatest_of_four p q r s = int_max (int_max p q) (int_max r s)

-- the least product of an end of a and an end of b
abbrev pub least_product : Ends → Ends → ℤ
least_product a b = least_of_four (a.lo *ℤ b.lo) (a.lo *ℤ b.hi) (a.hi *ℤ b.lo) (a.hi *ℤ b.hi)

-- the greatest product of an end of a and an end of b
abbrev pub greatest_product : Ends → Ends → ℤ
greatest_product a b = greatest_of_four (a.lo *ℤ b.lo) (a.lo *ℤ b.hi) (a.hi *ℤ b.lo) (a.hi *ℤ b.hi)

-- a * b, at scale n
unfoldable pub product_at : ℕ → Ends → Ends → Ends
product_at n a b = record { lo = floor_over (least_product a b) n; hi = ceil_over (greatest_product a b) n }

-- x / y for two ends at scale n, y above 0, rounded down
abbrev pub quotient_down : ℕ → ℤ → ℤ → ℤ
quotient_down n x y = floor_over (x *ℤ pos n) (unsigned_abs y)

-- x / y for two ends at scale n, y above 0, rounded up
abbrev pub quotient_up : ℕ → ℤ → ℤ → ℤ
quotient_up n x y = ceil_over (x *ℤ pos n) (unsigned_abs y)

-- a / b at scale n, where b is above 0: the least and the greatest quotient of an end of a by an
-- end of b
unfoldable pub quotient_at : ℕ → Ends → Ends → Ends
quotient_at n a b =
    record {
      lo = least_of_four (quotient_down n a.lo b.lo) (quotient_down n a.lo b.hi) (quotient_down n a.hi b.lo) (quotient_down n a.hi b.hi);
      hi = greatest_of_four (quotient_up n a.lo b.lo) (quotient_up n a.lo b.hi) (quotient_up n a.hi b.lo) (quotient_up n a.hi b.hi);
    }

-- 0 lies between the ends
abbrev pub holds_zero : Ends → Bool
holds_zero a = int_le a.lo (pos 0) && int_le (pos 0) a.hi

-- the least magnitude of a number between the ends: 0 where 0 lies between them, else the lesser of
-- their magnitudes
abbrev pub least_magnitude : Ends → ℕ
least_magnitude a = if holds_zero a then 0 else (min (unsigned_abs a.lo) (unsigned_abs a.hi))

-- the absolute value of a: from the least to the greatest magnitude of its numbers
unfoldable pub absolute_of : Ends → Ends
absolute_of a = record { lo = pos (least_magnitude a); hi = pos (magnitude_of a) }

-- the square of a, at scale n
unfoldable pub square_at : ℕ → Ends → Ends
square_at n a = record { lo = floor_over (pos (least_magnitude a * least_magnitude a)) n; hi = ceil_over (pos (magnitude_of a * magnitude_of a)) n }

-- k times a, for a whole number k of either sign
unfoldable pub multiple_of : ℤ → Ends → Ends
multiple_of k a = record { lo = int_min (k *ℤ a.lo) (k *ℤ a.hi); hi = int_max (k *ℤ a.lo) (k *ℤ a.hi) }

-- a times the fraction num / den
unfoldable pub fraction_of : ℕ → ℕ → Ends → Ends
fraction_of num den a = record { lo = floor_over (a.lo *ℤ pos num) den; hi = ceil_over (a.hi *ℤ pos num) den }

-- a at scale n, with each end that lies below k raised to k
unfoldable pub cut_low_at : ℕ → ℤ → Ends → Ends
cut_low_at n k a = record { lo = int_max a.lo (k *ℤ pos n); hi = int_max a.hi (k *ℤ pos n) }

-- a at scale n, with each end that lies above k lowered to k
unfoldable pub cut_high_at : ℕ → ℤ → Ends → Ends
cut_high_at n k a = record { lo = int_min a.lo (k *ℤ pos n); hi = int_min a.hi (k *ℤ pos n) }

-- the least interval that holds a and b
unfoldable pub hull_of : Ends → Ends → Ends
hull_of a b = record { lo = int_min a.lo b.lo; hi = int_max a.hi b.hi }
