-- What follows from enclosing alone.
use Rattle.std.proofs.Common.{ℕ, ℤ, pos, ◌*◌, ◌<◌, ◌*ℤ◌, ◌≤ℤ◌, arith}
use Rattle.std.proofs.lemmas.Int.{ints}
use Rattle.interval_specs.specs.Ends.{Ends, IsOrdered, nothing, one_at}
use Rattle.interval_specs.specs.Encloses.{Encloses}
use Rattle.interval_specs.proofs.Order.{parts, by_parts, to_parts, mono_left, cancel_left, trans_ℤ, refl_ℤ}

-- an interval that encloses another has its ends in order
pub outer_ordered : (m : ℕ) (a b : Ends) → 0 < m → Encloses m a b → IsOrdered a
outer_ordered m a b some h =
    cancel_left m a.lo a.hi some (trans_ℤ (pos m *ℤ a.lo) b.lo (pos m *ℤ a.hi) h.low (trans_ℤ b.lo b.hi (pos m *ℤ a.hi) h.ordered h.high))

-- from one scale to a finer one, and from that to one finer still
pub encloses_trans : (m k : ℕ) (a b c : Ends) → Encloses m a b → Encloses k b c → Encloses (k * m) a c
encloses_trans m k a b c h j =
    let low = simp parts at (to_parts (pos k *ℤ (pos m *ℤ a.lo)) (pos k *ℤ b.lo) (mono_left k (pos m *ℤ a.lo) b.lo h.low)) in
    let high = simp parts at (to_parts (pos k *ℤ b.hi) (pos k *ℤ (pos m *ℤ a.hi)) (mono_left k b.hi (pos m *ℤ a.hi) h.high)) in
    let low' = simp parts at (to_parts (pos k *ℤ b.lo) c.lo j.low) in
    let high' = simp parts at (to_parts c.hi (pos k *ℤ b.hi) j.high) in
    record {
      low = by_parts (pos (k * m) *ℤ a.lo) c.lo (simp parts (omega arith));
      high = by_parts c.hi (pos (k * m) *ℤ a.hi) (simp parts (omega arith));
      ordered = j.ordered;
    }

-- at one scale: inclusion
pub included : (a b : Ends) → a.lo ≤ℤ b.lo → b.hi ≤ℤ a.hi → IsOrdered b → Encloses 1 a b
included a b low high o = record { low = omega (arith, ints); high = omega (arith, ints); ordered = o }

pub inclusion_low : (a b : Ends) → Encloses 1 a b → a.lo ≤ℤ b.lo
inclusion_low a b h = let l = h.low in omega (arith, ints)

pub inclusion_high : (a b : Ends) → Encloses 1 a b → b.hi ≤ℤ a.hi
inclusion_high a b h = let l = h.high in omega (arith, ints)

-- an interval in order encloses itself
pub encloses_itself : (a : Ends) → IsOrdered a → Encloses 1 a a
encloses_itself a o = included a a (refl_ℤ a.lo) (refl_ℤ a.hi) o

-- the number one encloses itself at a finer scale
pub one_encloses : (n m : ℕ) → Encloses m (one_at n) (one_at (m * n))
unfolding one_at
one_encloses n m = record { low = omega (arith, ints); high = omega (arith, ints); ordered = refl_ℤ (pos (m * n)) }

-- a lower end that is not negative stays so at a finer scale
pub low_not_negative : (m : ℕ) (a b : Ends) → Encloses m a b → pos 0 ≤ℤ a.lo → pos 0 ≤ℤ b.lo
low_not_negative m a b h p = trans_ℤ (pos 0) (pos m *ℤ a.lo) b.lo (times_not_negative m a.lo p) h.low
  where
    times_not_negative : (m : ℕ) (z : ℤ) → pos 0 ≤ℤ z → pos 0 ≤ℤ (pos m *ℤ z)
    times_not_negative m z q = let k = simp parts at (to_parts (pos m *ℤ pos 0) (pos m *ℤ z) (mono_left m (pos 0) z q)) in by_parts (pos 0) (pos m *ℤ z) (simp parts (omega arith))

-- the number zero encloses itself at each scale
pub nothing_encloses : (m : ℕ) → Encloses m nothing nothing
nothing_encloses m = record { low = omega (arith, ints); high = omega (arith, ints); ordered = omega (arith, ints) }
