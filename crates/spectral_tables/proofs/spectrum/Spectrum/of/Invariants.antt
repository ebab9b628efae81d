use Rattle.std.proofs.Common.{◌≡◌, map, take}
use Rattle.spectral_tables.specs.Spectrum.{ends_of}
use Rattle.spectral_tables.proofs.spectrum.Spectrum.of.Given as goal

abbrev pub invariant-loop-interval : goal.invariant-loop-interval
invariant-loop-interval g l = map ends_of l.stored.items ≡ take l.interval-index l.intervals
