-- Quotients of natural numbers as the ends of an interval.
use Rattle.std.proofs.Common.{ℕ, ℤ, pos, ◌≡◌, ◌^◌, ◌≤◌, FitsSigned, ap, subst, sym, ◌∙◌, arith, unsigned_abs, lit<}
use Rattle.std.proofs.lemmas.Int.{ints, to_z_pos}
use Rattle.std.specs.Int.{w128}
use mir.Val.{to_z}
use Rattle.interval_specs.specs.Ends.{Ends, IsHeld, magnitude_of}
use Rattle.interval_specs.proofs.Ranges.{lo_small, hi_small}
use Rattle.fix_bounds.proofs.Passed.{fits}
use Rattle.cmc_bounds.specs.Quotients.{quotient_ends}

small_low : (c : ℕ) (a : Ends) → IsHeld a → pos c ≡ a.lo → c ≤ 10 ^ 25
small_low c a h e = let s = h.small in let l = lo_small a in let k : unsigned_abs (pos c) ≤ magnitude_of a = subst (λ x. unsigned_abs x ≤ magnitude_of a) (sym e) l in omega (arith, ints)

small_high : (c : ℕ) (a : Ends) → IsHeld a → pos c ≡ a.hi → c ≤ 10 ^ 25
small_high c a h e = let s = h.small in let l = hi_small a in let k : unsigned_abs (pos c) ≤ magnitude_of a = subst (λ x. unsigned_abs x ≤ magnitude_of a) (sym e) l in omega (arith, ints)

-- a natural number that is an end of a held interval fits, and is read as itself
pub low_fits : (c : ℕ) (a : Ends) → IsHeld a → pos c ≡ a.lo → FitsSigned w128 (pos c)
low_fits c a h e = fits (pos c) (10 ^ 25) (small_low c a h e) (lit< tt)

pub high_fits : (c : ℕ) (a : Ends) → IsHeld a → pos c ≡ a.hi → FitsSigned w128 (pos c)
high_fits c a h e = fits (pos c) (10 ^ 25) (small_high c a h e) (lit< tt)

pub low_reads : (c : ℕ) (a : Ends) → IsHeld a → pos c ≡ a.lo → to_z w128 c ≡ a.lo
low_reads c a h e = let s = small_low c a h e in to_z_pos w128 c (omega arith) ∙ e

pub high_reads : (c : ℕ) (a : Ends) → IsHeld a → pos c ≡ a.hi → to_z w128 c ≡ a.hi
high_reads c a h e = let s = small_high c a h e in to_z_pos w128 c (omega arith) ∙ e

-- the ends of the interval, where both quotients are taken at the ends of another
pub ends_same : (numerator denominator : ℕ → ℕ) (x y : ℤ) (e : Ends) (lt lb ht hb : ℕ) → x ≡ e.lo → y ≡ e.hi → lt ≡ numerator (unsigned_abs x) → lb ≡ denominator (unsigned_abs x) → ht ≡ numerator (unsigned_abs y) → hb ≡ denominator (unsigned_abs y) → quotient_ends lt lb ht hb ≡ quotient_ends (numerator (unsigned_abs e.lo)) (denominator (unsigned_abs e.lo)) (numerator (unsigned_abs e.hi)) (denominator (unsigned_abs e.hi))
ends_same numerator denominator x y e lt lb ht hb p q a b d f =
    let lt' = a ∙ ap (λ z. numerator (unsigned_abs z)) p in
    let lb' = b ∙ ap (λ z. denominator (unsigned_abs z)) p in
    let ht' = d ∙ ap (λ z. numerator (unsigned_abs z)) q in
    let hb' = f ∙ ap (λ z. denominator (unsigned_abs z)) q in
    λ i. quotient_ends (lt' i) (lb' i) (ht' i) (hb' i)

pub low_end_small : (x : ℤ) (e : Ends) (k : ℕ) → x ≡ e.lo → magnitude_of e ≤ k → unsigned_abs x ≤ k
low_end_small x e k p s = let l = lo_small e in subst (λ z. unsigned_abs z ≤ k) (sym p) (omega (arith, l))

pub high_end_small : (x : ℤ) (e : Ends) (k : ℕ) → x ≡ e.hi → magnitude_of e ≤ k → unsigned_abs x ≤ k
high_end_small x e k p s = let l = hi_small e in subst (λ z. unsigned_abs z ≤ k) (sym p) (omega (arith, l))
