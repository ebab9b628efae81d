-- A share of 0 units.
use Rattle.std.proofs.Common.{◌≡◌, ◌*◌, ◌<◌, ◌∙◌, ℕ, pos, ap, sym, arith}
use Rattle.std.proofs.Math.Nat.{zero-div}
use Rattle.std.proofs.lemmas.Int.{ints}
use Rattle.interval_specs.specs.Rounding.{floor_over, ceil_over}
use Rattle.interval_specs.proofs.Rounds.{ceil_here, floor_of_natural}

no_product : (numerator units : ℕ) → units ≡ 0 → numerator * units ≡ 0
no_product numerator units none = ap (λ u. numerator * u) none ∙ omega arith

pub none_down : (numerator units denominator : ℕ) → units ≡ 0 → pos 0 ≡ floor_over (pos (numerator * units)) denominator
none_down numerator units denominator none =
    ap pos (sym (zero-div denominator)) ∙ floor_of_natural 0 denominator ∙ ap (λ z. floor_over (pos z) denominator) (sym (no_product numerator units none))

pub none_up : (numerator units denominator : ℕ) → units ≡ 0 → 0 < denominator → pos 0 ≡ ceil_over (pos (numerator * units)) denominator
none_up numerator units denominator none some =
    let nothing = no_product numerator units none in
    ceil_here (pos 0) (pos (numerator * units)) denominator some (none_down numerator units denominator none) (omega (arith, ints))
