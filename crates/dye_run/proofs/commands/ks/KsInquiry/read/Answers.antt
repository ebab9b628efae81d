use Rattle.dye_run.specs.Inputs.{reads_book}
use Rattle.dye_run.specs.Ks.{ks_report}
use Rattle.dye_run.specs.Views.{ks_view}
use Rattle.run_core.proofs.Readings.{input_by, input_reads}
use Rattle.dye_run.proofs.commands.ks.KsInquiry.read.Goals as goal

pub returns-clause-input : goal.returns-clause-input
returns-clause-input g c = input_by (reads_book c.args.self.curves.now) (ks_report (ks_view c.args.self)) _ _ (λ book. book) c.read_book.result c.read_book.ensures.made

pub returns-clause-reads : goal.returns-clause-reads
returns-clause-reads g c = input_reads (reads_book c.args.self.curves.now) (ks_report (ks_view c.args.self)) _ _ c.read_book.ensures.reads
