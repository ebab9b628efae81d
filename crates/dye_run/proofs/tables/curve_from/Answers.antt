use Rattle.std.proofs.Common.{rules, refl}
use Rattle.dye_run.specs.Inputs.{curve_from}
use Rattle.run_core.specs.Outcome.{no_column}
use Rattle.dye_run.proofs.tables.curve_from.Goals as goal

pub returns-in-None-clause-is : goal.returns-in-None-clause-is
unfolding curve_from
returns-in-None-clause-is c = (no_column c.args.name.now c.args.column.now, refl, search rules)
