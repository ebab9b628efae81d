-- Quotients of a whole number by a natural one, rounded down and up, also below 0.
use Rattle.std.specs.Prelude.{ℕ, ℤ, pos, negsuc, neg_ℤ, ◌/◌}

-- the greatest whole number that is at most z / n
unfoldable pub floor_over : ℤ → ℕ → ℤ
floor_over (pos a) n = pos (a / n)
floor_over (negsuc a) n = negsuc (a / n)

-- the least whole number that is at least z / n
unfoldable pub ceil_over : ℤ → ℕ → ℤ
ceil_over z n = neg_ℤ (floor_over (neg_ℤ z) n)
