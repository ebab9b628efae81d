use Rattle.std.proofs.Common.{◌≡◌, take}
use Rattle.spectral_tables.proofs.curve.Curve.of.Given as goal

abbrev pub invariant-loop-reflectance : goal.invariant-loop-reflectance
invariant-loop-reflectance l = l.stored.items ≡ take l.reflectance-index l.millionths
