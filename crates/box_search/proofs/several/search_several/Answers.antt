use Rattle.std.proofs.Common.{subst, sym}
use Rattle.box_specs.specs.Span.{lists}
use Rattle.box_search.specs.Found.{IsFound, IsSmall}
use Rattle.box_search.proofs.several.search_several.Goals as goal

pub returns-clause-found : goal.returns-clause-found
returns-clause-found g c =
    let ended = c.in_ok-ended.ended in
    subst (λ xs. IsFound (g.L.Landscape.land c.args.land.now) c.args.wanted c.args.budget ended.end (lists ended.tally.matched.items) (lists ended.tally.undecided.items) xs ended.boxes)
    (sym c.in_ok-lines.ensures) c.in_ok-ended.ensures.shown.found

pub returns-clause-small : goal.returns-clause-small
returns-clause-small g c =
    let ended = c.in_ok-ended.ended in
    subst (λ xs. IsSmall (lists ended.tally.undecided.items) xs ended.boxes) (sym c.in_ok-lines.ensures) c.in_ok-ended.ensures.shown.small
