-- The ends of the values on a piece of a broken line.
use Rattle.std.proofs.Common.{◌≡◌, ◌-◌, ◌<◌, ◌≤◌, ◌≤ℤ◌, ℕ, pos, min, max, arith}
use Rattle.std.proofs.lemmas.Int.{ints, clamps}
use Rattle.interval_specs.specs.Operations.{hull_of}
use Rattle.interval_specs.proofs.Held.{same_ends}
use Rattle.interval_specs.proofs.Order.{min_first, min_second, max_first, max_second}
use Rattle.interval_specs.proofs.Rounds.{floor_mono, ceil_mono}
use Rattle.spectral_tables.specs.Spectrum.{ends_of}
use Rattle.ks_curves.specs.BrokenLine.{Node, between_at}
use Rattle.ks_curves.specs.Walk.{piece_over}
use Rattle.ks_curves.proofs.Means.{weigh_rises, weigh_falls}

-- the hull of stored ends
pub hull_is : (a b : ℕ × ℕ) (x y : ℕ) → x ≡ min a.0 b.0 → y ≡ max a.1 b.1 → ends_of (x, y) ≡ hull_of (ends_of a) (ends_of b)
unfolding hull_of
hull_is a b x y low high = same_ends (pos x) (pos y) _ (omega (arith, ints, clamps, low)) (omega (arith, ints, clamps, high))

-- a piece from x0 to x1 units between two nodes
module _ (a b : Node) (x0 x1 : ℕ) (lt : a.units < b.units) (from : a.units ≤ x0) (ordered : x0 ≤ x1) (to : x1 ≤ b.units) where
  some : 0 < b.units - a.units
  some = omega (arith, lt)

  pub low_rising : a.value.lo ≤ℤ b.value.lo → (piece_over a b x0 x1).lo ≡ (between_at a b x0).lo
  unfolding hull_of
  low_rising h = min_first _ _ (floor_mono _ _ (b.units - a.units) some (weigh_rises a.value.lo b.value.lo a.units b.units x0 x1 from ordered to h))

  pub low_falling : b.value.lo ≤ℤ a.value.lo → (piece_over a b x0 x1).lo ≡ (between_at a b x1).lo
  unfolding hull_of
  low_falling h = min_second _ _ (floor_mono _ _ (b.units - a.units) some (weigh_falls a.value.lo b.value.lo a.units b.units x0 x1 from ordered to h))

  pub high_rising : a.value.hi ≤ℤ b.value.hi → (piece_over a b x0 x1).hi ≡ (between_at a b x1).hi
  unfolding hull_of
  high_rising h = max_second _ _ (ceil_mono _ _ (b.units - a.units) some (weigh_rises a.value.hi b.value.hi a.units b.units x0 x1 from ordered to h))

  pub high_falling : b.value.hi ≤ℤ a.value.hi → (piece_over a b x0 x1).hi ≡ (between_at a b x0).hi
  unfolding hull_of
  high_falling h = max_first _ _ (ceil_mono _ _ (b.units - a.units) some (weigh_falls a.value.hi b.value.hi a.units b.units x0 x1 from ordered to h))
