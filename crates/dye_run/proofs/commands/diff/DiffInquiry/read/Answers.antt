use Rattle.dye_run.specs.Diff.{diff_report}
use Rattle.dye_run.specs.Inputs.{reads_tables}
use Rattle.dye_run.specs.Views.{diff_view, tables_view}
use Rattle.run_core.proofs.Readings.{input_by, input_reads}
use Rattle.dye_run.proofs.commands.diff.DiffInquiry.read.Goals as goal

pub returns-clause-input : goal.returns-clause-input
returns-clause-input g c = input_by (reads_tables c.args.self.curves.now c.args.self.weights.now) (diff_report (diff_view c.args.self)) _ _ tables_view c.read_tables.result c.read_tables.ensures.made

pub returns-clause-reads : goal.returns-clause-reads
returns-clause-reads g c = input_reads (reads_tables c.args.self.curves.now c.args.self.weights.now) (diff_report (diff_view c.args.self)) _ _ c.read_tables.ensures.reads
