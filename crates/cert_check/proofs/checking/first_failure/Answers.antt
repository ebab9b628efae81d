use Rattle.std.proofs.Common.{◌∙◌, List, ℕ, sym, ap, subst}
use Rattle.std.specs.Prelude.{None}
use Rattle.box_specs.specs.declared.certificate.Cutoff.{Cutoff}
use Rattle.box_specs.specs.declared.certificate.Cutoff.TheVariants.{Never}
use Rattle.box_specs.specs.Span.{lists}
use Rattle.box_specs.specs.Validity.{cutoff_of, list_failure}
use Rattle.cert_check.specs.Ready.{CutoffIsWithin, IsReady}
use Rattle.cert_check.proofs.Results.{is_none}
use Rattle.cert_check.proofs.Within.{cut_off_is, ready}
use Rattle.cert_check.proofs.checking.first_failure.Goals as goal

pub list_failure-failure-requires-2-clause-cut_off : goal.list_failure-failure-requires-2-clause-cut_off
list_failure-failure-requires-2-clause-cut_off g c =
    let l = g.L.Landscape.land c.args.land.now in
    subst (CutoffIsWithin l) (sym c.cutoff_of.ensures) (cut_off_is l c.args.cert.now.claim c.top-top.ensures.lawful
    (ap (list_failure l Never 2 None) (sym c.matched_of-matched.ensures) ∙ sym c.list_failure-failure.ensures
    ∙ is_none c.list_failure-failure.result c.is_some.result c.is_some.ensures c.if-is_some.false))

pub tree_failure-requires-clause-ready : goal.tree_failure-requires-clause-ready
tree_failure-requires-clause-ready g c =
    let l = g.L.Landscape.land c.args.land.now in
    subst (λ (k : Cutoff). IsReady l k (lists c.matched_of-matched.result.now) (lists c.as_slice.result.now)) (sym c.cutoff_of.ensures)
    (subst (λ (m : List (List ℕ)). IsReady l (cutoff_of c.args.cert.now.claim) m (lists c.as_slice.result.now)) (sym c.matched_of-matched.ensures)
    (ready l c.args.cert.now.claim (lists c.as_slice.result.now) c.top-top.ensures.lawful
    (ap (list_failure l Never 2 None) (sym c.matched_of-matched.ensures) ∙ sym c.list_failure-failure.ensures
    ∙ is_none c.list_failure-failure.result c.is_some.result c.is_some.ensures c.if-is_some.false)
    (ap (λ k. list_failure l k 4 None (lists c.as_slice.result.now)) (sym c.cutoff_of.ensures) ∙ sym c.list_failure-failure-2.ensures
    ∙ is_none c.list_failure-failure-2.result c.is_some-2.result c.is_some-2.ensures c.if-is_some-2.false)))
