-- Sums of intervals, part by part.
use Rattle.std.proofs.Common.{◌≡◌, ◌+ℤ◌, pos, arith}
use Rattle.std.proofs.lemmas.Int.{ints}
use Rattle.interval_specs.specs.Ends.{Ends, nothing}
use Rattle.interval_specs.specs.Operations.{sum_of}

pub sum-regroup : (a b c : Ends) → sum_of (sum_of a b) c ≡ sum_of a (sum_of b c)
unfolding sum_of
sum-regroup a b c =
    let lo : ((a.lo +ℤ b.lo) +ℤ c.lo) ≡ (a.lo +ℤ (b.lo +ℤ c.lo)) = omega (arith, ints) in
    let hi : ((a.hi +ℤ b.hi) +ℤ c.hi) ≡ (a.hi +ℤ (b.hi +ℤ c.hi)) = omega (arith, ints) in
    λ i. record { lo = lo i; hi = hi i }

pub sum-nothing : (a : Ends) → sum_of a nothing ≡ a
unfolding sum_of
sum-nothing a =
    let lo : (a.lo +ℤ pos 0) ≡ a.lo = omega (arith, ints) in
    let hi : (a.hi +ℤ pos 0) ≡ a.hi = omega (arith, ints) in
    λ i. record { lo = lo i; hi = hi i }

pub nothing-sum : (a : Ends) → sum_of nothing a ≡ a
unfolding sum_of
nothing-sum a =
    let lo : (pos 0 +ℤ a.lo) ≡ a.lo = omega (arith, ints) in
    let hi : (pos 0 +ℤ a.hi) ≡ a.hi = omega (arith, ints) in
    λ i. record { lo = lo i; hi = hi i }
