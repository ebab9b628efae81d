use Rattle.std.proofs.Common.{inl, rules}
use Rattle.std.proofs.lemmas.Grind.{common_steps}
use Rattle.mix_model.proofs.tests.even.Goals as goal

pub of-requires : goal.of-requires
of-requires c = record { count = inl (search rules); range = search (rules, common_steps) }
