-- What the commands and the inputs of the code stand for.
use Rattle.dye_run.specs.declared.command.Command.{Command}
use Rattle.dye_run.specs.declared.command.Command.TheVariants as code
use Rattle.dye_run.specs.declared.cert_words.CertWords.{CertWords}
use Rattle.dye_run.specs.declared.commands.diff.Diff.{Diff}
use Rattle.dye_run.specs.declared.commands.ks.Ks.{Ks}
use Rattle.dye_run.specs.declared.commands.show.Show.{Show}
use Rattle.dye_run.specs.declared.jobs.Gathered.{Gathered}
use Rattle.dye_run.specs.declared.jobs.JobRead.{JobRead}
use Rattle.dye_run.specs.declared.jobs.JobTables.{JobTables}
use Rattle.dye_run.specs.declared.tables.Tables.{Tables}
use Rattle.dye_run.specs.declared.tolerance.Tolerance.{Tolerance}
use Rattle.dye_run.specs.declared.words.LitColumn.{LitColumn}
use Rattle.job_file.specs.ResolvedView.{resolved_view}
use Rattle.std.specs.Prelude.{ℕ, Option, option_map}
use Rattle.dye_run.specs.Diff.{DiffWords}
use Rattle.dye_run.specs.Forms.{Form, check, correct, demo, diff, ks, lab, predict, show, xyz}
use Rattle.dye_run.specs.Inputs as inputs
use Rattle.dye_run.specs.Jobs as jobs
use Rattle.dye_run.specs.Ks.{KsWords}
use Rattle.dye_run.specs.Show.{ShowWords}
use Rattle.dye_run.specs.Words as words

abbrev pub ks_view : Ks → KsWords
ks_view c = record { curves = c.curves.now; column = c.column.now }

abbrev pub lit_view : LitColumn → words.LitColumn
lit_view c = record { curves = c.curves.now; column = c.column.now; weights = c.weights.now }

abbrev pub tolerance_view : Option Tolerance → Option ℕ
tolerance_view tolerance = option_map (λ t. t.thousandths) tolerance

abbrev pub diff_view : Diff → DiffWords
diff_view c = record {
  curves = c.curves.now;
  standard = c.standard.now;
  sample = c.sample.now;
  weights = c.weights.now;
  l10 = c.rule.l10;
  c10 = c.rule.c10;
  tolerance = tolerance_view c.tolerance;
}

abbrev pub show_view : Show → ShowWords
show_view c = record { job = c.job.now; steps = c.steps.now }

abbrev pub cert_words_view : CertWords → words.CertWords
cert_words_view c = record { job = c.job.now; cert = c.cert.text.now }

abbrev pub form_view : Command → Form
form_view (code.Ks c) = ks (ks_view c)
form_view (code.Xyz c) = xyz (lit_view c)
form_view (code.Lab c) = lab (lit_view c)
form_view (code.Diff c) = diff (diff_view c)
form_view (code.Show c) = show (show_view c)
form_view (code.Predict c) = predict (cert_words_view c)
form_view (code.Correct c) = correct (cert_words_view c)
form_view (code.Check c) = check (cert_words_view c)
form_view (code.Demo d) = demo d.0.number

-- the curves and the weights that were read
abbrev pub tables_view : Tables → inputs.Tables
tables_view tables = record { book = tables.book; weights = tables.weights }

-- the curves and the weights of a job that were read
abbrev pub job_tables_view : JobTables → jobs.JobTables
job_tables_view tables = record { book = tables.book; weights = tables.weights.items }

-- the same, with the text of another file
abbrev pub gathered_view : Gathered → jobs.Gathered
gathered_view g = record { tables = job_tables_view g.tables; text = g.text.items }

-- a job that was read and resolved, with the text of another file
abbrev pub job_read_view : JobRead → jobs.JobRead
job_read_view r = record { job = resolved_view r.resolved; text = r.text.items }
