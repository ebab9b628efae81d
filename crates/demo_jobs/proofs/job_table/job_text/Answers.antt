use Rattle.std.proofs.Common.{◌≤◌, ◌∙◌, Some, ap, string_bytes, subst, sym}
use Rattle.std.proofs.lemmas.Str.{IsUtf8-string_bytes}
use Rattle.toml.specs.Data.{members_depth}
use Rattle.demo_jobs.specs.JobTable.{job_table}
use Rattle.demo_jobs.proofs.TableFacts.{job_depth, writes_tree}
use Rattle.demo_jobs.proofs.job_table.job_text.Goals as goal

pub returns-in-Ok : goal.returns-in-Ok
returns-in-Ok c =
    let shallow = subst (λ m. members_depth m ≤ 80) (sym c.in_ok-table.ensures) (job_depth c.args.dyes.now) in
    writes_tree (string_bytes c.in-Ok.text) (job_table c.args.dyes.now) (IsUtf8-string_bytes c.in-Ok.text) (c.in-Ok.ensures.reads_back shallow ∙ ap Some c.in_ok-table.ensures)
