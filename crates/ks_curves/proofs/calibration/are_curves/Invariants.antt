use Rattle.std.proofs.Common.{take, All}
use Rattle.spectral_tables.specs.Curve.{IsCurve}
use Rattle.ks_curves.proofs.calibration.are_curves.Given as goal

abbrev pub invariant-loop-dyed : goal.invariant-loop-dyed
invariant-loop-dyed l = All (λ d. IsCurve d.1) (take l.dyed-index l.dyeings)
