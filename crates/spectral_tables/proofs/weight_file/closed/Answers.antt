use Rattle.std.proofs.Common.{length, ap, sym, ◌∙◌}
use Rattle.spectral_tables.proofs.FoldFacts.{length-closed, table-closed}
use Rattle.spectral_tables.proofs.weight_file.closed.Goals as goal

pub invariant_of-result : goal.invariant_of-result
invariant_of-result c =
    rw c.folded.ensures.is (
    table-closed c.args.run.now c.args.white _ _ _ c.folded.ensures.held c.requires.end c.requires.white
    (sym c.in_ok-ensure_balance.ensures) (sym c.in_ok-ensure_balance-2.ensures) (sym c.in_ok-ensure_balance-3.ensures)
    )

pub returns-clause-waves : goal.returns-clause-waves
returns-clause-waves c = ap length c.folded.ensures.is ∙ length-closed c.args.run.now c.folded.ensures.held c.requires.end
