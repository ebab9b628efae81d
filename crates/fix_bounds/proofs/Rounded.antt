-- The conditions of rounding two quotients outwards, over plain numbers.
use Rattle.std.proofs.Common.{ℕ, ℤ, pos, ◌≡◌, ◌*◌, ◌<◌, ◌≤◌, ◌^◌, ◌*ℤ◌, ◌<ℤ◌, unsigned_abs, arith, subst, sym, le_refl, le_trans}
use Rattle.std.proofs.lemmas.Int.{unsigned_abs-mul, ints}
use Rattle.interval_specs.specs.Ends.{Ends, IsHeld, magnitude_of}
use Rattle.interval_specs.specs.Rounding.{floor_over, ceil_over}
use Rattle.interval_specs.proofs.Order.{refl_ℤ, magnitude_positive, wider, le_pos}
use Rattle.interval_specs.proofs.Ranges.{held, rounded_magnitude, product_small, lo_small, hi_small}
use Rattle.fix_bounds.specs.CanRound.{CanRound}

-- the condition at known values
pub can_round : (x y b x' y' b' : ℤ) → x ≡ x' → y ≡ y' → b ≡ b' → CanRound x' y' b' → CanRound x y b
can_round x y b x' y' b' p q r h = subst (λ z. CanRound z y b) (sym p) (subst (λ z. CanRound x' z b) (sym q) (subst (λ z. CanRound x' y' z) (sym r) h))

-- quotients that are rounded so satisfy IsHeld
pub held_rounded : (x y b : ℤ) → CanRound x y b → IsHeld (record { lo = floor_over x (unsigned_abs b); hi = ceil_over y (unsigned_abs b) })
held_rounded x y b h = held _ (rounded_magnitude x y (unsigned_abs b) (10 ^ 25) (magnitude_positive b h.positive) h.ordered h.low_small h.high_small)

-- a ratio counted in units has room
pub units_room : (p : ℤ) (n : ℕ) → unsigned_abs p * n ≤ 10 ^ 37 → unsigned_abs (p *ℤ pos n) ≤ 10 ^ 37
units_room p n h = omega (arith, unsigned_abs-mul p (pos n))

-- a ratio can be rounded
pub ratio_rounds : (n : ℕ) (p q : ℤ) → pos 0 <ℤ q → unsigned_abs p * n ≤ 10 ^ 37 → unsigned_abs p * n ≤ 10 ^ 25 * unsigned_abs q → CanRound (p *ℤ pos n) (p *ℤ pos n) q
ratio_rounds n p q some room small =
    let s = unsigned_abs-mul p (pos n) in
    record { positive = some; ordered = refl_ℤ (p *ℤ pos n); low_room = omega arith; high_room = omega arith; low_small = omega arith; high_small = omega arith }

-- an interval times a fraction can be rounded
pub fraction_rounds : (num den : ℕ) (a : Ends) → IsHeld a → 0 < den → magnitude_of a * num ≤ 10 ^ 37 → magnitude_of a * num ≤ 10 ^ 25 * den → CanRound (a.lo *ℤ pos num) (a.hi *ℤ pos num) (pos den)
fraction_rounds num den a h some room small =
    let l = product_small a.lo (pos num) (magnitude_of a) num (lo_small a) (le_refl num) in
    let u = product_small a.hi (pos num) (magnitude_of a) num (hi_small a) (le_refl num) in
    record {
      positive = omega (arith, ints);
      ordered = wider (pos num) a.lo a.hi (le_pos num) h.ordered;
      low_room = omega arith;
      high_room = omega arith;
      low_small = omega arith;
      high_small = omega arith;
    }

pub low_fraction_room : (num : ℕ) (a : Ends) → magnitude_of a * num ≤ 10 ^ 37 → unsigned_abs (a.lo *ℤ pos num) ≤ 10 ^ 37
low_fraction_room num a h = le_trans (product_small a.lo (pos num) (magnitude_of a) num (lo_small a) (le_refl num)) h

pub high_fraction_room : (num : ℕ) (a : Ends) → magnitude_of a * num ≤ 10 ^ 37 → unsigned_abs (a.hi *ℤ pos num) ≤ 10 ^ 37
high_fraction_room num a h = le_trans (product_small a.hi (pos num) (magnitude_of a) num (hi_small a) (le_refl num)) h
