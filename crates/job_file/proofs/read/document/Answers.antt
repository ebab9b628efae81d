use Rattle.std.proofs.Common.{refl, sym, ◌∙◌}
use Rattle.std.proofs.lemmas.Bool.{false≢true}
use Rattle.toml.specs.View.{table_view}
use Rattle.job_file.proofs.Documents.{tree_found, tree_lost}
use Rattle.job_file.proofs.read.document.Goals as goal

pub returns-in-Ok : goal.returns-in-Ok
returns-in-Ok c = rw (tree_found c.args.bytes.now (table_view c.in-Ok.table) c.in-Ok.ensures.ok.0 c.in-Ok.ensures.ok.1) refl

pub returns-else-is_memory : goal.returns-else-is_memory
returns-else-is_memory c =
    rw (tree_lost c.args.bytes.now (c.in-Err.ensures.refused (λ m. absurd (false≢true (sym c.if-is_memory.false ∙ c.is_memory.ensures.1 m)))), c.fault.ensures) refl
