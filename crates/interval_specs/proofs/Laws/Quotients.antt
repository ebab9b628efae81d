-- The laws of a quotient by an interval above 0, and of one by the interval from 0 to 0.
use Rattle.std.proofs.Common.{ℕ, ℤ, pos, ◌≡◌, ◌*◌, ◌<◌, ◌*ℤ◌, ◌≤ℤ◌, ◌<ℤ◌, unsigned_abs, subst, arith}
use borrow.Author.Differences.{same_in}
use Rattle.std.proofs.lemmas.Int.{by_lt_z}
use Rattle.std.specs.Int.{int_min, int_max}
use Rattle.std.specs.Int.Signed.{<ℤ-≤ℤ_trans}
use Rattle.interval_specs.specs.Ends.{Ends, nothing}
use Rattle.interval_specs.specs.Encloses.{Encloses}
use Rattle.interval_specs.specs.Operations.{quotient_at, quotient_down, quotient_up}
use Rattle.interval_specs.specs.Laws.{QuotientEncloses}
use Rattle.interval_specs.proofs.Order.{parts, by_parts, to_parts, mono_left, trans_ℤ, magnitude_is, magnitude_positive, mono_by, wider, narrower, times_positive, le_pos, least_first, least_second, greatest_third, greatest_fourth, any_least, any_greatest, least_of_lower, greatest_of_upper}
use Rattle.interval_specs.proofs.Rounds.{floor_by_zero, ceil_by_zero, floor_mono, ceil_mono, floor_encloses, ceil_encloses, floor_le_ceil}
use Rattle.interval_specs.proofs.Laws.Enclosing.{outer_ordered}

-- where x / y is at most x' / y', m times the coarse floor is at most the fine floor
down_finer : (n m : ℕ) (x x' y y' : ℤ) → pos 0 <ℤ y → pos 0 <ℤ y' → (y' *ℤ x) ≤ℤ (y *ℤ x') → (pos m *ℤ quotient_down n x y) ≤ℤ quotient_down (m * n) x' y'
down_finer n m x x' y y' some some' h =
    let k : (pos (unsigned_abs y') *ℤ x) ≤ℤ (pos (unsigned_abs y) *ℤ x') = subst (λ z. (z *ℤ x) ≤ℤ (pos (unsigned_abs y) *ℤ x')) (magnitude_is y' some') (subst (λ z. (y' *ℤ x) ≤ℤ (z *ℤ x')) (magnitude_is y some) h) in
    let c = unsigned_abs y in
    let c' = unsigned_abs y' in
    let p = simp parts at (to_parts (pos (m * n) *ℤ (pos c' *ℤ x)) (pos (m * n) *ℤ (pos c *ℤ x')) (mono_left (m * n) (pos c' *ℤ x) (pos c *ℤ x') k)) in
    floor_encloses m c c' (x *ℤ pos n) (x' *ℤ pos (m * n)) (magnitude_positive y some) (magnitude_positive y' some')
    (by_parts (pos (m * c') *ℤ (x *ℤ pos n)) (pos c *ℤ (x' *ℤ pos (m * n))) (simp parts (omega arith)))

up_finer : (n m : ℕ) (x x' y y' : ℤ) → pos 0 <ℤ y → pos 0 <ℤ y' → (y *ℤ x') ≤ℤ (y' *ℤ x) → quotient_up (m * n) x' y' ≤ℤ (pos m *ℤ quotient_up n x y)
up_finer n m x x' y y' some some' h =
    let k : (pos (unsigned_abs y) *ℤ x') ≤ℤ (pos (unsigned_abs y') *ℤ x) = subst (λ z. (pos (unsigned_abs y) *ℤ x') ≤ℤ (z *ℤ x)) (magnitude_is y' some') (subst (λ z. (z *ℤ x') ≤ℤ (y' *ℤ x)) (magnitude_is y some) h) in
    let c = unsigned_abs y in
    let c' = unsigned_abs y' in
    let p = simp parts at (to_parts (pos (m * n) *ℤ (pos c *ℤ x')) (pos (m * n) *ℤ (pos c' *ℤ x)) (mono_left (m * n) (pos c *ℤ x') (pos c' *ℤ x) k)) in
    ceil_encloses m c c' (x *ℤ pos n) (x' *ℤ pos (m * n)) (magnitude_positive y some) (magnitude_positive y' some')
    (by_parts (pos c *ℤ (x' *ℤ pos (m * n))) (pos (m * c') *ℤ (x *ℤ pos n)) (simp parts (omega arith)))

-- m times a product, with m applied to either factor
turn : (m : ℕ) (c x : ℤ) → c *ℤ (pos m *ℤ x) ≡ (pos m *ℤ c) *ℤ x
turn m c x = same_in (c *ℤ (pos m *ℤ x)) ((pos m *ℤ c) *ℤ x) (simp parts (omega arith))

-- m times a bound that is at most both coarse quotients of x is at most the fine quotient
quotient_low : (n m : ℕ) (b : Ends) (x x' y' : ℤ) (l : ℤ) → pos 0 <ℤ b.lo → pos 0 <ℤ b.hi → pos 0 <ℤ y' → (pos m *ℤ b.lo) ≤ℤ y' → y' ≤ℤ (pos m *ℤ b.hi) → (pos m *ℤ x) ≤ℤ x' → l ≤ℤ quotient_down n x b.lo → l ≤ℤ quotient_down n x b.hi → (pos m *ℤ l) ≤ℤ quotient_down (m * n) x' y'
quotient_low n m b x x' y' l low high some p q h near far =
    by_lt_z x (pos 0)
    (λ s.
    let step = trans_ℤ (y' *ℤ x) ((pos m *ℤ b.lo) *ℤ x) (b.lo *ℤ x') (narrower x (pos m *ℤ b.lo) y' s p) (subst (λ z. z ≤ℤ (b.lo *ℤ x')) (turn m b.lo x) (mono_by b.lo (pos m *ℤ x) x' low h)) in
    trans_ℤ (pos m *ℤ l) (pos m *ℤ quotient_down n x b.lo) (quotient_down (m * n) x' y') (mono_left m l (quotient_down n x b.lo) near) (down_finer n m x x' b.lo y' low some step))
    (λ s.
    let step = trans_ℤ (y' *ℤ x) ((pos m *ℤ b.hi) *ℤ x) (b.hi *ℤ x') (wider x y' (pos m *ℤ b.hi) s q) (subst (λ z. z ≤ℤ (b.hi *ℤ x')) (turn m b.hi x) (mono_by b.hi (pos m *ℤ x) x' high h)) in
    trans_ℤ (pos m *ℤ l) (pos m *ℤ quotient_down n x b.hi) (quotient_down (m * n) x' y') (mono_left m l (quotient_down n x b.hi) far) (down_finer n m x x' b.hi y' high some step))

-- m times a bound that is at least both coarse quotients of x is at least the fine quotient
quotient_high : (n m : ℕ) (b : Ends) (x x' y' : ℤ) (g : ℤ) → pos 0 <ℤ b.lo → pos 0 <ℤ b.hi → pos 0 <ℤ y' → (pos m *ℤ b.lo) ≤ℤ y' → y' ≤ℤ (pos m *ℤ b.hi) → x' ≤ℤ (pos m *ℤ x) → quotient_up n x b.lo ≤ℤ g → quotient_up n x b.hi ≤ℤ g → quotient_up (m * n) x' y' ≤ℤ (pos m *ℤ g)
quotient_high n m b x x' y' g low high some p q h near far =
    by_lt_z x (pos 0)
    (λ s.
    let step = trans_ℤ (b.hi *ℤ x') ((pos m *ℤ b.hi) *ℤ x) (y' *ℤ x) (subst (λ z. (b.hi *ℤ x') ≤ℤ z) (turn m b.hi x) (mono_by b.hi x' (pos m *ℤ x) high h)) (narrower x y' (pos m *ℤ b.hi) s q) in
    trans_ℤ (quotient_up (m * n) x' y') (pos m *ℤ quotient_up n x b.hi) (pos m *ℤ g) (up_finer n m x x' b.hi y' high some step) (mono_left m (quotient_up n x b.hi) g far))
    (λ s.
    let step = trans_ℤ (b.lo *ℤ x') ((pos m *ℤ b.lo) *ℤ x) (y' *ℤ x) (subst (λ z. (b.lo *ℤ x') ≤ℤ z) (turn m b.lo x) (mono_by b.lo x' (pos m *ℤ x) low h)) (wider x (pos m *ℤ b.lo) y' s p) in
    trans_ℤ (quotient_up (m * n) x' y') (pos m *ℤ quotient_up n x b.lo) (pos m *ℤ g) (up_finer n m x x' b.lo y' low some step) (mono_left m (quotient_up n x b.lo) g near))

-- the lower end of a quotient is at most its upper end
pub quotients_ordered : (n : ℕ) (a b : Ends) → a.lo ≤ℤ a.hi → (quotient_at n a b).lo ≤ℤ (quotient_at n a b).hi
unfolding quotient_at
quotients_ordered n a b o =
    trans_ℤ _ (quotient_down n a.lo b.lo) _ (least_first (quotient_down n a.lo b.lo) (quotient_down n a.lo b.hi) (quotient_down n a.hi b.lo) (quotient_down n a.hi b.hi))
    (trans_ℤ _ (quotient_up n a.hi b.lo) _ (floor_le_ceil (a.lo *ℤ pos n) (a.hi *ℤ pos n) (unsigned_abs b.lo) (wider (pos n) a.lo a.hi (le_pos n) o))
    (greatest_third (quotient_up n a.lo b.lo) (quotient_up n a.lo b.hi) (quotient_up n a.hi b.lo) (quotient_up n a.hi b.hi)))

pub quotient_encloses : QuotientEncloses
unfolding quotient_at
quotient_encloses n m a b a' b' finer low p q =
    let l = (quotient_at n a b).lo in
    let g = (quotient_at n a b).hi in
    let high = <ℤ-≤ℤ_trans low (outer_ordered m b b' finer q) in
    let low' = times_positive m b.lo b'.lo finer low q.low in
    let high' = <ℤ-≤ℤ_trans low' q.ordered in
    let pu = trans_ℤ (pos m *ℤ a.lo) a'.lo a'.hi p.low p.ordered in
    let po = trans_ℤ a'.lo a'.hi (pos m *ℤ a.hi) p.ordered p.high in
    let qu = trans_ℤ (pos m *ℤ b.lo) b'.lo b'.hi q.low q.ordered in
    let qo = trans_ℤ b'.lo b'.hi (pos m *ℤ b.hi) q.ordered q.high in
    let l1 = least_first (quotient_down n a.lo b.lo) (quotient_down n a.lo b.hi) (quotient_down n a.hi b.lo) (quotient_down n a.hi b.hi) in
    let l2 = least_second (quotient_down n a.lo b.lo) (quotient_down n a.lo b.hi) (quotient_down n a.hi b.lo) (quotient_down n a.hi b.hi) in
    let g3 = greatest_third (quotient_up n a.lo b.lo) (quotient_up n a.lo b.hi) (quotient_up n a.hi b.lo) (quotient_up n a.hi b.hi) in
    let g4 = greatest_fourth (quotient_up n a.lo b.lo) (quotient_up n a.lo b.hi) (quotient_up n a.hi b.lo) (quotient_up n a.hi b.hi) in
    record {
      low = any_least (λ z. (pos m *ℤ l) ≤ℤ z) (quotient_down (m * n) a'.lo b'.lo) (quotient_down (m * n) a'.lo b'.hi) (quotient_down (m * n) a'.hi b'.lo) (quotient_down (m * n) a'.hi b'.hi)
          (quotient_low n m b a.lo a'.lo b'.lo l low high low' q.low qo p.low l1 l2)
          (quotient_low n m b a.lo a'.lo b'.hi l low high high' qu q.high p.low l1 l2)
          (quotient_low n m b a.lo a'.hi b'.lo l low high low' q.low qo pu l1 l2)
          (quotient_low n m b a.lo a'.hi b'.hi l low high high' qu q.high pu l1 l2);
      high = any_greatest (λ z. z ≤ℤ (pos m *ℤ g)) (quotient_up (m * n) a'.lo b'.lo) (quotient_up (m * n) a'.lo b'.hi) (quotient_up (m * n) a'.hi b'.lo) (quotient_up (m * n) a'.hi b'.hi)
          (quotient_high n m b a.hi a'.lo b'.lo g low high low' q.low qo po g3 g4)
          (quotient_high n m b a.hi a'.lo b'.hi g low high high' qu q.high po g3 g4)
          (quotient_high n m b a.hi a'.hi b'.lo g low high low' q.low qo p.high g3 g4)
          (quotient_high n m b a.hi a'.hi b'.hi g low high high' qu q.high p.high g3 g4);
      ordered = quotients_ordered (m * n) a' b' p.ordered;
    }

-- the lower end of a quotient comes from the lower end of the dividend, and the upper from the
-- upper
pub quotient_lower : (n : ℕ) (a b : Ends) → pos 0 <ℤ b.lo → b.lo ≤ℤ b.hi → a.lo ≤ℤ a.hi → (quotient_at n a b).lo ≡ int_min (quotient_down n a.lo b.lo) (quotient_down n a.lo b.hi)
unfolding quotient_at
quotient_lower n a b some o u =
    let more = <ℤ-≤ℤ_trans some o in
    let w = wider (pos n) a.lo a.hi (le_pos n) u in
    least_of_lower (quotient_down n a.lo b.lo) (quotient_down n a.lo b.hi) (quotient_down n a.hi b.lo) (quotient_down n a.hi b.hi)
    (floor_mono (a.lo *ℤ pos n) (a.hi *ℤ pos n) (unsigned_abs b.lo) (magnitude_positive b.lo some) w)
    (floor_mono (a.lo *ℤ pos n) (a.hi *ℤ pos n) (unsigned_abs b.hi) (magnitude_positive b.hi more) w)

pub quotient_upper : (n : ℕ) (a b : Ends) → pos 0 <ℤ b.lo → b.lo ≤ℤ b.hi → a.lo ≤ℤ a.hi → (quotient_at n a b).hi ≡ int_max (quotient_up n a.hi b.lo) (quotient_up n a.hi b.hi)
unfolding quotient_at
quotient_upper n a b some o u =
    let more = <ℤ-≤ℤ_trans some o in
    let w = wider (pos n) a.lo a.hi (le_pos n) u in
    greatest_of_upper (quotient_up n a.lo b.lo) (quotient_up n a.lo b.hi) (quotient_up n a.hi b.lo) (quotient_up n a.hi b.hi)
    (ceil_mono (a.lo *ℤ pos n) (a.hi *ℤ pos n) (unsigned_abs b.lo) (magnitude_positive b.lo some) w)
    (ceil_mono (a.lo *ℤ pos n) (a.hi *ℤ pos n) (unsigned_abs b.hi) (magnitude_positive b.hi more) w)

-- ---- a quotient by the interval from 0 to 0: its ends depend only on the sign of the dividend

dividend_not_negative : (n m : ℕ) (x x' : ℤ) → (pos m *ℤ x) ≤ℤ x' → pos 0 ≤ℤ (x *ℤ pos n) → pos 0 ≤ℤ (x' *ℤ pos (m * n))
dividend_not_negative n m x x' h p =
    let k = simp parts at (to_parts (pos (m * n) *ℤ (pos m *ℤ x)) (pos (m * n) *ℤ x') (mono_left (m * n) (pos m *ℤ x) x' h)) in
    let j = simp parts at (to_parts (pos (m * m) *ℤ pos 0) (pos (m * m) *ℤ (x *ℤ pos n)) (mono_left (m * m) (pos 0) (x *ℤ pos n) p)) in
    by_parts (pos 0) (x' *ℤ pos (m * n)) (simp parts (omega arith))

dividend_not_positive : (n m : ℕ) (x x' : ℤ) → x' ≤ℤ (pos m *ℤ x) → (x *ℤ pos n) ≤ℤ pos 0 → (x' *ℤ pos (m * n)) ≤ℤ pos 0
dividend_not_positive n m x x' h p =
    let k = simp parts at (to_parts (pos (m * n) *ℤ x') (pos (m * n) *ℤ (pos m *ℤ x)) (mono_left (m * n) x' (pos m *ℤ x) h)) in
    let j = simp parts at (to_parts (pos (m * m) *ℤ (x *ℤ pos n)) (pos (m * m) *ℤ pos 0) (mono_left (m * m) (x *ℤ pos n) (pos 0) p)) in
    by_parts (x' *ℤ pos (m * n)) (pos 0) (simp parts (omega arith))

down_by_zero : (n m : ℕ) (x x' : ℤ) → 0 < m → (pos m *ℤ x) ≤ℤ x' → (pos m *ℤ quotient_down n x (pos 0)) ≤ℤ quotient_down (m * n) x' (pos 0)
down_by_zero n m x x' finer h = floor_by_zero m (x *ℤ pos n) (x' *ℤ pos (m * n)) finer (dividend_not_negative n m x x' h)

up_by_zero : (n m : ℕ) (x x' : ℤ) → 0 < m → x' ≤ℤ (pos m *ℤ x) → quotient_up (m * n) x' (pos 0) ≤ℤ (pos m *ℤ quotient_up n x (pos 0))
up_by_zero n m x x' finer h = ceil_by_zero m (x *ℤ pos n) (x' *ℤ pos (m * n)) finer (dividend_not_positive n m x x' h)

pub quotient_by_nothing_encloses : (n m : ℕ) (a a' : Ends) → 0 < m → Encloses m a a' → Encloses m (quotient_at n a nothing) (quotient_at (m * n) a' nothing)
unfolding quotient_at
quotient_by_nothing_encloses n m a a' finer p =
    let down = λ (x : ℤ). quotient_down n x (pos 0) in
    let up = λ (x : ℤ). quotient_up n x (pos 0) in
    let fine_down = λ (x : ℤ). quotient_down (m * n) x (pos 0) in
    let fine_up = λ (x : ℤ). quotient_up (m * n) x (pos 0) in
    let l = (quotient_at n a nothing).lo in
    let g = (quotient_at n a nothing).hi in
    let least = least_first (down a.lo) (down a.lo) (down a.hi) (down a.hi) in
    let greatest = greatest_third (up a.lo) (up a.lo) (up a.hi) (up a.hi) in
    let low = λ (x : ℤ) (h : (pos m *ℤ a.lo) ≤ℤ x). trans_ℤ (pos m *ℤ l) (pos m *ℤ down a.lo) (fine_down x) (mono_left m l (down a.lo) least) (down_by_zero n m a.lo x finer h) in
    let high = λ (x : ℤ) (h : x ≤ℤ (pos m *ℤ a.hi)). trans_ℤ (fine_up x) (pos m *ℤ up a.hi) (pos m *ℤ g) (up_by_zero n m a.hi x finer h) (mono_left m (up a.hi) g greatest) in
    let pu = trans_ℤ (pos m *ℤ a.lo) a'.lo a'.hi p.low p.ordered in
    let po = trans_ℤ a'.lo a'.hi (pos m *ℤ a.hi) p.ordered p.high in
    record {
      low = any_least (λ z. (pos m *ℤ l) ≤ℤ z) (fine_down a'.lo) (fine_down a'.lo) (fine_down a'.hi) (fine_down a'.hi) (low a'.lo p.low) (low a'.lo p.low) (low a'.hi pu) (low a'.hi pu);
      high = any_greatest (λ z. z ≤ℤ (pos m *ℤ g)) (fine_up a'.lo) (fine_up a'.lo) (fine_up a'.hi) (fine_up a'.hi) (high a'.lo po) (high a'.lo po) (high a'.hi p.high) (high a'.hi p.high);
      ordered = quotients_ordered (m * n) a' nothing p.ordered;
    }
