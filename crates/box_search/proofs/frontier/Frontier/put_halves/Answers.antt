use Rattle.std.proofs.Common.{◌≡◌, refl, sym, subst}
use Rattle.box_specs.specs.Tree.{Spot}
use Rattle.box_search.specs.Frontier.{with_upper}
use Rattle.box_search.specs.Places.{at, spot}
use Rattle.box_search.proofs.Turning.{entry_at}
use Rattle.box_search.proofs.frontier.Frontier.put_halves.Goals as goal

pub returns-clause-map : goal.returns-clause-map
returns-clause-map g c =
    let upper = c.in-Some.field-0.upper in
    subst (λ h. (z : Spot) → at c.insert.new.self z ≡ with_upper h (at c.args.self.now.map) z) (sym c.in-Some.is)
    (entry_at c.args.self.now.map c.insert.new.self upper.0 upper.1 upper.1 (spot upper.0) c.in_ok-insert.ensures.updates.0 refl refl)
