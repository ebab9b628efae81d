use Rattle.std.proofs.Common.{rules, refl}
use Rattle.dye_run.specs.Inputs.{table_from}
use Rattle.run_core.specs.Outcome.{table, too_long}
use Rattle.dye_run.proofs.tables.table_from.Goals as goal

pub returns-in_default-clause-is : goal.returns-in_default-clause-is
unfolding table_from
returns-in_default-clause-is g c = (too_long c.args.name.now, refl, search rules)

pub returns-in-Err-Fault-clause-is : goal.returns-in-Err-Fault-clause-is
unfolding table_from
returns-in-Err-Fault-clause-is g c = (table c.args.name.now c.in-Err-Fault.fault, refl, search rules)
