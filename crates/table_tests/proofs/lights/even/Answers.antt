use Rattle.std.proofs.Common.{inl, rules}
use Rattle.std.proofs.lemmas.Grind.{common_steps}
use Rattle.spectral_tables.specs.Curve.{IsCurve}
use Rattle.table_tests.proofs.lights.even.Goals as goal

pub of-requires : goal.of-requires
of-requires c = record { count = inl (search rules); range = search (rules, common_steps) }
