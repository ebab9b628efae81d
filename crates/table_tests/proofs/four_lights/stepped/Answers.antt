use Rattle.std.proofs.Common.{inl, replicate, rules}
use Rattle.std.proofs.lemmas.List.Elements.{All-replicate, All-set}
use Rattle.spectral_tables.specs.Curve.{IsReflectance}
use Rattle.table_tests.proofs.four_lights.stepped.Goals as goal

pub of-requires : goal.of-requires
of-requires c = record { count = inl (search rules); range = All-set IsReflectance (replicate 31 c.args.others) 0 c.args.first c.requires.first (All-replicate IsReflectance 31 c.args.others c.requires.others) }
