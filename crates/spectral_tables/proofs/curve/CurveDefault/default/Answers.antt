use Rattle.std.proofs.Common.{inr, rules}
use Rattle.std.proofs.lemmas.Grind.{common_steps}
use Rattle.spectral_tables.specs.Curve.{IsCurve, IsReflectance, full_curve}
use Rattle.spectral_tables.proofs.curve.CurveDefault.default.Goals as goal

pub of-requires : goal.of-requires
of-requires c = record { count = inr (inr (search rules)); range = search (rules, common_steps) }
