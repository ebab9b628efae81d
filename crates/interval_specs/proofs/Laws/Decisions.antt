-- Tests on the ends of an interval that stay decided at a finer scale, and a choice of two forms by
-- them.
use Rattle.std.proofs.Common.{ℕ, ℤ, pos, ◌≡◌, true, false, int_lt, ◌*◌, ◌<◌, ◌*ℤ◌, ◌≤ℤ◌, ◌<ℤ◌, refl, arith, mul-le-mul_left, add-one-le, Bool, ◌&&◌, int_le, if◌then◌else◌}
use Rattle.std.proofs.lemmas.Int.{ints}
use Rattle.std.proofs.lemmas.Bool.{false≢true}
use Rattle.interval_specs.specs.Ends.{Ends}
use Rattle.interval_specs.specs.Encloses.{Encloses}
use Rattle.interval_specs.specs.Operations.{hull_of}
use Rattle.interval_specs.proofs.Order.{parts, to_parts, mono_left, trans_ℤ, to_parts_lt, by_parts_lt}
use Rattle.interval_specs.proofs.Laws.Choices.{hull_encloses, hull_first, hull_second}

-- where an order holds, its test returns true
pub lt_test : (a b : ℤ) → a <ℤ b → int_lt a b ≡ true
lt_test a b h = by (int_lt a b) refl
  where
    by : (t : Bool) → int_lt a b ≡ t → t ≡ true
    by true e = refl
    by false e = absurd (omega (arith, ints))

pub le_test : (a b : ℤ) → a ≤ℤ b → int_le a b ≡ true
le_test a b h = by (int_le a b) refl
  where
    by : (t : Bool) → int_le a b ≡ t → t ≡ true
    by true e = refl
    by false e = absurd (omega (arith, ints))

pub le_holds : (x y : ℤ) → int_le x y ≡ true → x ≤ℤ y
le_holds x y e = omega (arith, ints)

pub lt_holds : (x y : ℤ) → int_lt x y ≡ true → x <ℤ y
lt_holds x y e = omega (arith, ints)

pub le_refuses : (x y : ℤ) → y <ℤ x → int_le x y ≡ false
le_refuses x y h = grind (arith, ints)

pub lt_refuses : (x y : ℤ) → y ≤ℤ x → int_lt x y ≡ false
lt_refuses x y h = grind (arith, ints)

pub both_hold : (s t : Bool) → (s && t) ≡ true → (s ≡ true) × (t ≡ true)
both_hold true true e = (refl, refl)
both_hold true false e = absurd (false≢true e)
both_hold false t e = absurd (false≢true e)

-- ---- an end compared with a number k, which is k' at the finer scale

pub still_from : (m k k' : ℕ) (x x' : ℤ) → k' ≡ m * k → (pos m *ℤ x) ≤ℤ x' → pos k ≤ℤ x → pos k' ≤ℤ x'
still_from m k k' x x' e h p = let q = mono_left m (pos k) x p in trans_ℤ (pos k') (pos m *ℤ x) x' (omega (arith, ints)) h

pub still_below : (m k k' : ℕ) (x x' : ℤ) → 0 < m → k' ≡ m * k → x' ≤ℤ (pos m *ℤ x) → x <ℤ pos k → x' <ℤ pos k'
still_below m k k' x x' some e h p =
    let q = mul-le-mul_left m (add-one-le (to_parts_lt x (pos k) p)) in
    let r = simp parts at (to_parts x' (pos m *ℤ x) h) in
    by_parts_lt x' (pos k') (omega arith)

pub still_not_above_0 : (m : ℕ) (x x' : ℤ) → x' ≤ℤ (pos m *ℤ x) → x ≤ℤ pos 0 → x' ≤ℤ pos 0
still_not_above_0 m x x' h p = let q = mono_left m x (pos 0) p in trans_ℤ x' (pos m *ℤ x) (pos 0) h (omega (arith, ints))

-- a choice of two forms, or their hull where no test holds, encloses the finer choice, where a test
-- that holds at the coarse scale decides alike at the fine one
pub choice_encloses : (m : ℕ) (f s f' s' : Bool) (a b a' b' : Ends) → (f ≡ true → f' ≡ true) → (s ≡ true → (s' ≡ true) × (f' ≡ false)) → Encloses m a a' → Encloses m b b' → Encloses m (if f then a else (if s then b else (hull_of a b))) (if f' then a' else (if s' then b' else (hull_of a' b')))
choice_encloses m true s true s' a b a' b' u v p q = p
choice_encloses m true s false s' a b a' b' u v p q = let e = u refl in cc
choice_encloses m false true true s' a b a' b' u v p q = let e = (v refl).1 in cc
choice_encloses m false true false true a b a' b' u v p q = q
choice_encloses m false true false false a b a' b' u v p q = let e = (v refl).0 in cc
choice_encloses m false false true s' a b a' b' u v p q = hull_first m a b a' p
choice_encloses m false false false true a b a' b' u v p q = hull_second m a b b' q
choice_encloses m false false false false a b a' b' u v p q = hull_encloses m a b a' b' p q
