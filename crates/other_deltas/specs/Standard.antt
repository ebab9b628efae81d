-- The values of a standard as intervals, which is all that contracts see of it.
use Rattle.delta_specs.specs.Cie94.{Standard94Ends}
use Rattle.other_deltas.specs.declared.standard.Standard94.{Standard94}
use Rattle.fix_bounds.specs.declared.scale.Scale.{Ghosts}

-- the seven intervals of a value of the code
abbrev pub standard_ends : {S : Type 0} {g : Ghosts S} → Standard94 S g → Standard94Ends
standard_ends s = record { l1 = s.l1; a1 = s.a1; b1 = s.b1; c1 = s.c1; sc = s.sc; sh = s.sh; sh_square = s.sh_square }
