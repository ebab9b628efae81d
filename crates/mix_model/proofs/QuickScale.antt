-- The upper end of a mixture's K/S at the quick scale is less than 1 above that at the base scale:
-- each dye raises it by at most 160,002 quick parts, and the base by one.
use Rattle.std.proofs.Common.{◌≡◌, ◌+◌, ◌*◌, ◌^◌, ◌≤◌, ◌<◌, ◌≤ℤ◌, ◌<ℤ◌, ◌+ℤ◌, ◌*ℤ◌, ℕ, ℤ, pos, List, [], ◌∷◌, All, length, arith, subst}
use Rattle.std.specs.List.{AllZip}
use Rattle.std.proofs.lemmas.Int.{ints}
use Rattle.std.proofs.lemmas.List.Elements.{All-tail}
use Rattle.std.specs.Int.{int_max}
use Rattle.interval_specs.specs.Ends.{Ends}
use Rattle.interval_specs.specs.Operations.{cut_low_at, sum_of}
use Rattle.interval_specs.proofs.Order.{either_max, max_left, max_right}
use Rattle.spectral_tables.specs.Curve.{IsReflectance}
use Rattle.ks_curves.specs.KubelkaMunk.{ks_at}
use Rattle.ks_curves.specs.Dye.{IsDye}
use Rattle.ks_curves.specs.Calibration.{addition_over}
use Rattle.ks_curves.proofs.Nearness.{IsNearAbove, ks_near, add_near, addition_near}
use Rattle.mix_model.specs.Base.{base_at}
use Rattle.mix_model.specs.Mixture.{Portion, IsPortion, contributions_at, mixture_from, strengths_of}
use Rattle.mix_model.specs.Laws.{IsNear, QuickIsNear, curve_sums}

contributions_near : (n m wave count : ℕ) (ps : List Portion) → wave < count → All (λ p. IsDye p.dye) ps → All (IsPortion count) ps
    → IsNearAbove m (length ps * (m * 160002)) (contributions_at n wave ps).hi (contributions_at (m * n) wave ps).hi
unfolding contributions_at sum_of
contributions_near n m wave count [] lt dyes each = omega (arith, ints)
contributions_near n m wave count (p ∷ ps) lt dyes each =
    let can = each 0 p (omega arith) in
    let here = addition_near n m p.dye wave p.bath p.from p.upto (dyes 0 p (omega arith)) (omega (arith, lt, can.waves)) can.ordered can.units in
    let there = contributions_near n m wave count ps lt (All-tail (λ (p : Portion). IsDye p.dye) p ps dyes) (All-tail (IsPortion count) p ps each) in
    let all : m * 160002 + length ps * (m * 160002) ≡ length (p ∷ ps) * (m * 160002) = omega arith in
    let coarse = (addition_over n p.dye wave p.bath p.from p.upto).hi +ℤ (contributions_at n wave ps).hi in
    let fine = (addition_over (m * n) p.dye wave p.bath p.from p.upto).hi +ℤ (contributions_at (m * n) wave ps).hi in
    subst (λ e. IsNearAbove m e coarse fine) all (add_near m (m * 160002) (length ps * (m * 160002)) _ _ _ _ here there)

-- less than 1 in all
less_than_1 : (k : ℕ) (q s : ℤ) → k ≤ 12 → IsNearAbove (10 ^ 4) (10 ^ 4 + k * (10 ^ 4 * 160002)) q s → (pos (10 ^ 4) *ℤ q) <ℤ (s +ℤ pos (10 ^ 12))
less_than_1 k q s few near = within (pos (10 ^ 4) *ℤ q) s (10 ^ 4 + k * (10 ^ 4 * 160002)) (omega arith) near
  where
    within : (p s : ℤ) (e : ℕ) → e < 10 ^ 12 → p ≤ℤ (s +ℤ pos e) → p <ℤ (s +ℤ pos (10 ^ 12))
    within p s e small near = omega (arith, ints)

mixtures_near : (wave count : ℕ) (ps : List Portion) (curve : List ℕ) → wave + length curve ≤ count → All IsReflectance curve → length ps ≤ 12 → All (λ p. IsDye p.dye) ps → All (IsPortion count) ps
    → AllZip IsNear (mixture_from (10 ^ 8) ps wave (base_at (10 ^ 8) curve)) (mixture_from (10 ^ 12) ps wave (base_at (10 ^ 12) curve))
unfolding mixture_from base_at sum_of
mixtures_near wave count ps [] within range few dyes each = tt
mixtures_near wave count ps (r ∷ curve) within range few dyes each =
    let base = ks_near (10 ^ 8) (10 ^ 4) r (omega (arith, (range 0 r (omega arith)).0)) in
    let dyed = contributions_near (10 ^ 8) (10 ^ 4) wave count ps (omega (arith, within)) dyes each in
    let quick_base = (ks_at (10 ^ 8) r).hi in
    let quick_dyes = (contributions_at (10 ^ 8) wave ps).hi in
    let fine_base = (ks_at (10 ^ 12) r).hi in
    let fine_dyes = (contributions_at (10 ^ 12) wave ps).hi in
    let both = add_near (10 ^ 4) (10 ^ 4) (length ps * (10 ^ 4 * 160002)) quick_base quick_dyes fine_base fine_dyes base dyed in
    (less_than_1 (length ps) (quick_base +ℤ quick_dyes) (fine_base +ℤ fine_dyes) few both, mixtures_near (wave + 1) count ps curve (omega (arith, within)) (All-tail IsReflectance r curve range) few dyes each)

-- the same once both are cut at 0
cut_near : (n k : ℕ) (x y : ℤ) → (pos (10 ^ 4) *ℤ x) <ℤ (y +ℤ pos (10 ^ 12)) → (pos (10 ^ 4) *ℤ int_max x (pos 0 *ℤ pos n)) <ℤ (int_max y (pos 0 *ℤ pos k) +ℤ pos (10 ^ 12))
cut_near n k x y near =
    let top = int_max y (pos 0 *ℤ pos k) in
    either_max (λ x. (pos (10 ^ 4) *ℤ x) <ℤ (top +ℤ pos (10 ^ 12))) x (pos 0 *ℤ pos n) (further (pos (10 ^ 4) *ℤ x) y top (max_left y (pos 0 *ℤ pos k)) near) (at_zero n k top (max_right y (pos 0 *ℤ pos k)))
  where
    further : (p y z : ℤ) → y ≤ℤ z → p <ℤ (y +ℤ pos (10 ^ 12)) → p <ℤ (z +ℤ pos (10 ^ 12))
    further p y z le h = omega (arith, ints)

    at_zero : (n k : ℕ) (z : ℤ) → (pos 0 *ℤ pos k) ≤ℤ z → (pos (10 ^ 4) *ℤ (pos 0 *ℤ pos n)) <ℤ (z +ℤ pos (10 ^ 12))
    at_zero n k z h = omega (arith, ints)

strengths_near : (sums finer : List Ends) → AllZip IsNear sums finer → AllZip IsNear (strengths_of (10 ^ 8) sums) (strengths_of (10 ^ 12) finer)
unfolding strengths_of cut_low_at
strengths_near [] [] h = tt
strengths_near [] (b ∷ bs) h = absurd h
strengths_near (a ∷ as') [] h = absurd h
strengths_near (a ∷ as') (b ∷ bs) h = (cut_near (10 ^ 8) (10 ^ 12) a.hi b.hi h.0, strengths_near as' bs h.1)

pub quick_is_near : QuickIsNear
quick_is_near curve ps kept few dyes each =
    let sums = mixtures_near 0 (length curve) ps curve (omega arith) kept.range few dyes each in
    (sums, strengths_near (curve_sums (10 ^ 8) curve ps) (curve_sums (10 ^ 12) curve ps) sums)
