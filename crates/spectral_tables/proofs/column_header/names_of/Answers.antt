use Rattle.std.proofs.Common.{Bor, List, ℕ, map, sym}
use Rattle.spectral_tables.proofs.NameFacts.{distinct-names}
use Rattle.spectral_tables.proofs.column_header.names_of.Goals as goal

pub returns-clause-distinct : goal.returns-clause-distinct
returns-clause-distinct g c =
    let names = map (λ (n : Bor (List ℕ)). n.now) c.in_ok-names.names.items in
    distinct-names names names (sym (rw c.deref.ensures.value at c.in_ok-all_different.ensures))
