-- What the calls in the weights and the terms require and ensure, over plain intervals.
use Rattle.std.proofs.Common.{ℕ, pos, ◌≡◌, ◌+◌, ◌*◌, ◌^◌, ◌≤◌, ◌<◌, arith, subst, sym, lit<, lit≤, mul-le-mul}
use Rattle.interval_specs.specs.Ends.{Ends, IsHeld, magnitude_of}
use Rattle.interval_specs.specs.Ranges.{MagnitudeUpTo, UpTo, AtLeast}
use Rattle.interval_specs.specs.Operations.{cut_low_at, fraction_of, product_at, ratio_at, square_at}
use Rattle.interval_specs.proofs.Order.{le_pos}
use Rattle.interval_specs.proofs.Ranges.{carry_up_to, cut_low_up_to, held, product_up_to, ratio_up_to, magnitude_of_up_to, magnitude_wider, square_up_to}
use Rattle.lab_parts.proofs.Rooms.{sum_room, unit_magnitude, up_to_magnitude}
use Rattle.cmc_specs.proofs.Ranges.{chroma_divisor_at_least, hue_weight_square_at_least, lightness_divisor_at_least}

-- an interval times a weight that is given in tenths has room
pub tenths_room : (n w : ℕ) (a : Ends) → n ≤ 10 ^ 12 → w ≤ 100 → magnitude_of a ≤ 6 * n → magnitude_of a * w ≤ 10 ^ 15
tenths_room n w a few p s = let m = mul-le-mul s p in omega arith

-- ---- the divisors

-- a divisor that is known by its definition has its lower bound
pub lightness_divisor : (n w : ℕ) (sl r : Ends) → 10 ^ 6 ≤ n → 0 < w → AtLeast 51 100 n sl → r ≡ fraction_of w 10 sl → AtLeast 509 10000 n r
lightness_divisor n w sl r large some low e = subst (λ x. AtLeast 509 10000 n x) (sym e) (lightness_divisor_at_least n w sl large some low)

pub chroma_divisor : (n w : ℕ) (sc r : Ends) → 10 ^ 6 ≤ n → 0 < w → AtLeast 637 1000 n sc → r ≡ fraction_of w 10 sc → AtLeast 636 10000 n r
chroma_divisor n w sc r large some low e = subst (λ x. AtLeast 636 10000 n x) (sym e) (chroma_divisor_at_least n w sc large some low)

pub hue_divisor : (n : ℕ) (sh r : Ends) → 10 ^ 6 ≤ n → UpTo (6 * n) sh → AtLeast 22 100 n sh → r ≡ square_at n sh → AtLeast 48 1000 n r
hue_divisor n sh r large u low e = subst (λ x. AtLeast 48 1000 n x) (sym e) (hue_weight_square_at_least n sh large u.ordered low)

pub light_magnitude : (n : ℕ) (sl : Ends) → UpTo (3 * n) sl → magnitude_of sl ≤ 6 * n
light_magnitude n sl u = let s = up_to_magnitude (3 * n) sl u in omega arith

-- a product of two numbers from 0 to 1
pub units_product : (n : ℕ) (a b r : Ends) → 0 < n → UpTo n a → UpTo n b → r ≡ product_at n a b → UpTo n r
units_product n a b r some u v e = carry_up_to n r (product_at n a b) e (product_up_to n n n n a b some (omega arith) u v)

-- a lightness that is raised to 16
pub raised_magnitude : (n : ℕ) (l1 : Ends) → MagnitudeUpTo (1000 * n) l1 → magnitude_of (cut_low_at n (pos 16) l1) ≤ 1000 * n
raised_magnitude n l1 s = up_to_magnitude (1000 * n) (cut_low_at n (pos 16) l1) (cut_low_up_to n (1000 * n) 16 l1 (omega arith) s)

pub held_unit : (n : ℕ) (a : Ends) → n ≤ 10 ^ 12 → UpTo n a → IsHeld a
held_unit n a few u = held a (magnitude_wider n (10 ^ 25) a (omega arith) (magnitude_of_up_to n a u))

-- the two parts of S_C
pub weight_room : (n : ℕ) (l g : Ends) → n ≤ 10 ^ 12 → l ≡ ratio_at n (pos 638) 1000 → UpTo (5 * n) g → magnitude_of l + magnitude_of g ≤ 10 ^ 25
weight_room n l g few e u =
    let x = carry_up_to n l _ e (ratio_up_to n n (pos 638) 1000 (lit< tt) (le_pos 638) (omega arith)) in
    sum_room n 1 5 l g few (lit≤ tt) (lit≤ tt) (unit_magnitude n l x) (up_to_magnitude (5 * n) g u)

-- the square of the square of a chroma
pub fourth_power : (n : ℕ) (p r : Ends) → 0 < n → UpTo (2 * 10 ^ 6 * n) p → r ≡ square_at n p → UpTo (4 * 10 ^ 12 * n) r
fourth_power n p r some u e = carry_up_to (4 * 10 ^ 12 * n) r (square_at n p) e (square_up_to n (4 * 10 ^ 12 * n) (2 * 10 ^ 6 * n) p some (omega arith) (up_to_magnitude (2 * 10 ^ 6 * n) p u))
