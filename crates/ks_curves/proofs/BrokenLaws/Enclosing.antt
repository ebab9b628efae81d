-- A broken line in the scale: its nodes, and so its values, keep enclosing.
use Rattle.std.proofs.Common.{◌≡◌, ◌-◌, ◌*◌, ◌+ℤ◌, ◌*ℤ◌, ◌^◌, ◌∙◌, ◌&&◌, ℕ, ℤ, pos, Bool, true, false, nat_le, nat_lt, List, [], ◌∷◌, map, arith, if◌then◌else◌}
use Rattle.std.specs.Prelude.{slice_index}
use borrow.Author.Differences.{same_in}
use Rattle.interval_specs.specs.Ends.{Ends, nothing}
use Rattle.interval_specs.specs.Encloses.{Encloses}
use Rattle.interval_specs.specs.Operations.{hull_of}
use Rattle.interval_specs.proofs.Laws.{ratio_encloses, difference_encloses, cut_low_encloses, hull_encloses, fraction_encloses, nothing_encloses}
use Rattle.interval_specs.proofs.Order.{parts, mul-add_ℤ}
use Rattle.interval_specs.proofs.Rounds.{floor_finer, ceil_finer, floor_le_ceil}
use Rattle.ks_curves.specs.KubelkaMunk.{ks_at}
use Rattle.ks_curves.specs.Dye.{Dyeing}
use Rattle.ks_curves.specs.Calibration.{added_at, node_at}
use Rattle.ks_curves.specs.BrokenLine.{origin, between_at, value_from, widened, broken_over}
use Rattle.ks_curves.specs.Laws.{KsEncloses}
use Rattle.ks_curves.proofs.Means.{weigh_mono}

pub ks_encloses : KsEncloses
unfolding ks_at
ks_encloses n m r = ratio_encloses n m (pos ((10 ^ 6 - r) * (10 ^ 6 - r))) (2 * 10 ^ 6 * r)

pub added_encloses : (n m : ℕ) (substrate : List ℕ) (wave : ℕ) (d : Dyeing) → Encloses m (added_at n substrate wave d) (added_at (m * n) substrate wave d)
added_encloses n m substrate wave d = difference_encloses m _ _ _ _ (ks_encloses n m (slice_index d.1 wave)) (ks_encloses n m (slice_index substrate wave))

pub node_encloses : (n m : ℕ) (substrate : List ℕ) (wave : ℕ) (d : Dyeing) → Encloses m (node_at n substrate wave d).value (node_at (m * n) substrate wave d).value
unfolding node_at
node_encloses n m substrate wave d = cut_low_encloses n m (pos 0) _ _ (added_encloses n m substrate wave d)

-- m times a weighed sum
times : (m p q : ℕ) (a b : ℤ) → pos m *ℤ (a *ℤ pos p +ℤ b *ℤ pos q) ≡ (pos m *ℤ a) *ℤ pos p +ℤ (pos m *ℤ b) *ℤ pos q
times m p q a b = mul-add_ℤ (pos m) (a *ℤ pos p) (b *ℤ pos q) ∙ (λ i. swap m p a i +ℤ swap m q b i)
  where
    swap : (m p : ℕ) (a : ℤ) → pos m *ℤ (a *ℤ pos p) ≡ (pos m *ℤ a) *ℤ pos p
    swap m p a = same_in (pos m *ℤ (a *ℤ pos p)) ((pos m *ℤ a) *ℤ pos p) (simp parts (omega arith))

pub between_encloses : (m : ℕ) (a b a' b' : Ends) (u v x : ℕ) → Encloses m a a' → Encloses m b b'
    → Encloses m (between_at (record { units = u; value = a }) (record { units = v; value = b }) x) (between_at (record { units = u; value = a' }) (record { units = v; value = b' }) x)
between_encloses m a b a' b' u v x h k = record {
  low = floor_finer m (v - u) (a.lo *ℤ pos (v - x) +ℤ b.lo *ℤ pos (x - u)) (a'.lo *ℤ pos (v - x) +ℤ b'.lo *ℤ pos (x - u)) (rw (times m (v - x) (x - u) a.lo b.lo) (weigh_mono (pos m *ℤ a.lo) (pos m *ℤ b.lo) a'.lo b'.lo (v - x) (x - u) h.low k.low));
  high = ceil_finer m (v - u) (a.hi *ℤ pos (v - x) +ℤ b.hi *ℤ pos (x - u)) (a'.hi *ℤ pos (v - x) +ℤ b'.hi *ℤ pos (x - u)) (rw (times m (v - x) (x - u) a.hi b.hi) (weigh_mono a'.hi b'.hi (pos m *ℤ a.hi) (pos m *ℤ b.hi) (v - x) (x - u) h.high k.high));
  ordered = floor_le_ceil (a'.lo *ℤ pos (v - x) +ℤ b'.lo *ℤ pos (x - u)) (a'.hi *ℤ pos (v - x) +ℤ b'.hi *ℤ pos (x - u)) (v - u) (weigh_mono a'.lo b'.lo a'.hi b'.hi (v - x) (x - u) h.ordered k.ordered);
}

choose_encloses : (m : ℕ) (t : Bool) (a b a' b' : Ends) → Encloses m a a' → Encloses m b b' → Encloses m (if t then a else b) (if t then a' else b')
choose_encloses m true a b a' b' h k = h
choose_encloses m false a b a' b' h k = k

module _ (n m : ℕ) (substrate : List ℕ) (wave : ℕ) where
  from_encloses : (u : ℕ) (e e' : Ends) (ds : List Dyeing) (x : ℕ) → Encloses m e e'
      → Encloses m (value_from (record { units = u; value = e }) (map (node_at n substrate wave) ds) x) (value_from (record { units = u; value = e' }) (map (node_at (m * n) substrate wave) ds) x)
  unfolding value_from node_at
  from_encloses u e e' [] x h = fraction_encloses m x u e e' h
  from_encloses u e e' (d ∷ ds) x h =
      let node = node_encloses n m substrate wave d in
      choose_encloses m (nat_le d.0 x) _ _ _ _ (from_encloses d.0 _ _ ds x node) (between_encloses m e _ e' _ u d.0 x h node)

  widened_encloses : (x0 x1 : ℕ) (e e' : Ends) (ds : List Dyeing) → Encloses m e e'
      → Encloses m (widened x0 x1 e (map (node_at n substrate wave) ds)) (widened x0 x1 e' (map (node_at (m * n) substrate wave) ds))
  unfolding widened node_at
  widened_encloses x0 x1 e e' [] h = h
  widened_encloses x0 x1 e e' (d ∷ ds) h =
      let node = node_encloses n m substrate wave d in
      let t = nat_lt x0 d.0 && nat_lt d.0 x1 in
      widened_encloses x0 x1 (if t then hull_of e (node_at n substrate wave d).value else e) (if t then hull_of e' (node_at (m * n) substrate wave d).value else e') ds
      (choose_encloses m t _ _ _ _ (hull_encloses m _ _ _ _ h node) h)

  pub value_encloses : (ds : List Dyeing) (x : ℕ) → Encloses m (value_from origin (map (node_at n substrate wave) ds) x) (value_from origin (map (node_at (m * n) substrate wave) ds) x)
  value_encloses ds x = from_encloses 0 nothing nothing ds x (nothing_encloses m)

  pub broken_encloses : (ds : List Dyeing) (x0 x1 : ℕ) → Encloses m (broken_over (map (node_at n substrate wave) ds) x0 x1) (broken_over (map (node_at (m * n) substrate wave) ds) x0 x1)
  unfolding broken_over
  broken_encloses ds x0 x1 = widened_encloses x0 x1 _ _ ds (hull_encloses m _ _ _ _ (value_encloses ds x0) (value_encloses ds x1))
