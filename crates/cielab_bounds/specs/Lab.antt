-- A colour as its intervals, which is all that contracts see of it.
use Rattle.cielab_bounds.specs.Cielab.{LabEnds}
use Rattle.cielab_bounds.specs.declared.coordinates.Lab.{Lab}
use Rattle.fix_bounds.specs.declared.scale.Scale.{Ghosts}

-- L, a and b of a value of the code
abbrev pub lab_ends : {S : Type 0} {g : Ghosts S} → Lab S g → LabEnds
lab_ends p = record { l = p.l; a = p.a; b = p.b }
