-- The values of a standard as intervals, which is all that contracts see of it.
use Rattle.cmc_specs.specs.Cmc.{StandardEnds}
use Rattle.cmc_bounds.specs.declared.standard.Standard.{Standard}
use Rattle.fix_bounds.specs.declared.scale.Scale.{Ghosts}

-- the seven intervals of a value of the code
abbrev pub standard_ends : {S : Type 0} {g : Ghosts S} → Standard S g → StandardEnds
standard_ends s = record { l1 = s.l1; a1 = s.a1; b1 = s.b1; c1 = s.c1; sl = s.sl; sc = s.sc; sh = s.sh }
