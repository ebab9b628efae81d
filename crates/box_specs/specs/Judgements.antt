-- Tests of how a box is judged.
use Rattle.std.specs.Prelude.{Bool, true, false}
use Rattle.box_specs.specs.declared.judged.Judged.{Judged}
use Rattle.box_specs.specs.declared.judged.Judged.TheVariants.{Fail, Limit, Pass, StillOpen, Undecided}

abbrev pub is_open : Judged → Bool
is_open (Limit k) = false
is_open (Fail j) = false
is_open StillOpen = true
is_open Pass = false
is_open Undecided = false

abbrev pub is_undecided : Judged → Bool
is_undecided (Limit k) = false
is_undecided (Fail j) = false
is_undecided StillOpen = false
is_undecided Pass = false
is_undecided Undecided = true

abbrev pub is_passing : Judged → Bool
is_passing (Limit k) = false
is_passing (Fail j) = false
is_passing StillOpen = false
is_passing Pass = true
is_passing Undecided = false
