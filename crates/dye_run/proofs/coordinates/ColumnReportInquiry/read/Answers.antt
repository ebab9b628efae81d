use Rattle.dye_run.specs.Coordinates.{coordinates_report}
use Rattle.dye_run.specs.Inputs.{reads_tables}
use Rattle.dye_run.specs.Views.{lit_view, tables_view}
use Rattle.run_core.proofs.Readings.{input_by, input_reads}
use Rattle.dye_run.proofs.coordinates.ColumnReportInquiry.read.Goals as goal

pub returns-clause-input : goal.returns-clause-input
returns-clause-input g c =
    input_by (reads_tables c.args.self.0.curves.now c.args.self.0.weights.now) (coordinates_report (g.C.Coordinates.evaluations c.args.self.1) (lit_view c.args.self.0)) _ _ tables_view c.read_tables.result c.read_tables.ensures.made

pub returns-clause-reads : goal.returns-clause-reads
returns-clause-reads g c =
    input_reads (reads_tables c.args.self.0.curves.now c.args.self.0.weights.now) (coordinates_report (g.C.Coordinates.evaluations c.args.self.1) (lit_view c.args.self.0)) _ _ c.read_tables.ensures.reads
