-- The laws of the reflectance: a chain of the laws of the operations.
use Rattle.std.proofs.Common.{◌*◌, ◌<◌, ◌≤ℤ◌, ◌<ℤ◌, ℕ, pos, subst, one-mul, arith, unsigned_abs}
use Rattle.std.proofs.lemmas.Int.{ints}
use Rattle.interval_specs.specs.Ends.{Ends, one_at}
use Rattle.interval_specs.specs.Encloses.{Encloses}
use Rattle.interval_specs.specs.Operations.{sum_of, multiple_of, square_at}
use Rattle.interval_specs.specs.Ranges.{UpTo}
use Rattle.interval_specs.specs.Roots.{sqrt_at}
use Rattle.interval_specs.proofs.Laws.{outer_ordered, sum_encloses, square_encloses, multiple_encloses, sqrt_encloses, quotient_encloses, one_encloses}
use Rattle.interval_specs.proofs.Ranges.{multiple_up_to, square_not_negative, sum_not_negative, sum_positive, sqrt_not_negative}
use Rattle.mix_model.specs.Reflectance.{radicand_at, divisor_at, reflectance_at}
use Rattle.mix_model.specs.Laws.{ReflectanceEncloses, ReflectanceNarrows}

-- an interval that is not below 0 has a range
some_range : (q : Ends) → pos 0 ≤ℤ q.lo → q.lo ≤ℤ q.hi → UpTo (unsigned_abs q.hi) q
some_range q z o = record { not_negative = z; ordered = o; below = omega (arith, ints) }

radicand_from_0 : (n : ℕ) (q : Ends) → 0 < n → pos 0 ≤ℤ q.lo → q.lo ≤ℤ q.hi → pos 0 ≤ℤ (radicand_at n q).lo
unfolding radicand_at
radicand_from_0 n q some z o =
    sum_not_negative (square_at n q) (multiple_of (pos 2) q) (square_not_negative n q some) (multiple_up_to (unsigned_abs q.hi) 2 q (some_range q z o)).not_negative

divisor_above_0 : (n : ℕ) (q : Ends) → 0 < n → pos 0 ≤ℤ q.lo → pos 0 <ℤ (divisor_at n q).lo
unfolding divisor_at one_at
divisor_above_0 n q some z =
    sum_positive (sum_of (one_at n) q) (sqrt_at n (radicand_at n q)) (sum_positive (one_at n) q (omega (arith, ints)) z) (sqrt_not_negative n (radicand_at n q))

pub reflectance_encloses : ReflectanceEncloses
unfolding radicand_at divisor_at reflectance_at
reflectance_encloses n m q finer some times z h =
    let ordered = outer_ordered m q finer times h in
    let under = sum_encloses m _ _ _ _ (square_encloses n m q finer some times h) (multiple_encloses m (pos 2) q finer h) in
    let root = sqrt_encloses n m (radicand_at n q) (radicand_at (m * n) finer) (radicand_from_0 n q some z ordered) under in
    let below = sum_encloses m _ _ _ _ (sum_encloses m _ _ _ _ (one_encloses n m) h) root in
    quotient_encloses n m (one_at n) (divisor_at n q) (one_at (m * n)) (divisor_at (m * n) finer) times (divisor_above_0 n q some z) (one_encloses n m) below

pub reflectance_narrows : ReflectanceNarrows
reflectance_narrows n q narrower some z h =
    subst (λ k. Encloses 1 (reflectance_at n q) (reflectance_at k narrower)) (one-mul n) (reflectance_encloses n 1 q narrower some (omega arith) z h)
