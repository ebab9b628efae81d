use Rattle.std.proofs.Common.{ap, ◌∙◌}
use Rattle.box_specs.specs.Span.{lists}
use Rattle.box_search.specs.Found.{claim_by}
use Rattle.box_search.proofs.Certs.{made}
use Rattle.box_search.proofs.Results.{one_result}
use Rattle.box_search.proofs.outcome.search.Goals as goal

pub invariant_of-cert : goal.invariant_of-cert
invariant_of-cert g c =
    let found = c.in_ok-found.found in
    let m = made (g.L.Landscape.land c.args.land.now) c.top-top.ensures.lawful c.args.budget found.end (lists found.matched.items) (lists found.undecided.items) found.lines.items found.boxes
    c.in_ok-found.ensures.found c.in_ok-found.ensures.small c.requires.few c.claim_of-claim.result c.of.result c.of-2.result (c.claim_of-claim.ensures ∙ ap (λ xs. claim_by found.end (lists xs)) c.as_slice.ensures.value) c.of.ensures c.of-2.ensures in
    record { whole = m.valid.whole; short = m.short; few = m.few; one_length = m.one_length; numbers = m.numbers }

pub returns-clause-canonical : goal.returns-clause-canonical
returns-clause-canonical g c =
    let found = c.in_ok-found.found in
    (made (g.L.Landscape.land c.args.land.now) c.top-top.ensures.lawful c.args.budget found.end (lists found.matched.items) (lists found.undecided.items) found.lines.items found.boxes
    c.in_ok-found.ensures.found c.in_ok-found.ensures.small c.requires.few c.claim_of-claim.result c.of.result c.of-2.result (c.claim_of-claim.ensures ∙ ap (λ xs. claim_by found.end (lists xs)) c.as_slice.ensures.value) c.of.ensures c.of-2.ensures).canonical

pub returns-clause-is : goal.returns-clause-is
returns-clause-is g c = one_result (g.L.Landscape.land c.args.land.now) c.top-top.ensures.lawful c.args.budget _ (returns-clause-canonical g c)

pub returns-clause-valid : goal.returns-clause-valid
returns-clause-valid g c =
    let found = c.in_ok-found.found in
    (made (g.L.Landscape.land c.args.land.now) c.top-top.ensures.lawful c.args.budget found.end (lists found.matched.items) (lists found.undecided.items) found.lines.items found.boxes
    c.in_ok-found.ensures.found c.in_ok-found.ensures.small c.requires.few c.claim_of-claim.result c.of.result c.of-2.result (c.claim_of-claim.ensures ∙ ap (λ xs. claim_by found.end (lists xs)) c.as_slice.ensures.value) c.of.ensures c.of-2.ensures).valid
