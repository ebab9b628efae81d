use Rattle.std.proofs.Common.{sym}
use Rattle.dye_run.specs.Inputs.{tables_from}
use Rattle.dye_run.proofs.inputs.tables_from.Goals as goal

pub returns : goal.returns
unfolding tables_from
returns c = rw (sym c.as_deref.ensures.value, sym c.as_deref-2.ensures.value, c.in_ok-book.ensures.is, c.in_ok-table.ensures.is)
