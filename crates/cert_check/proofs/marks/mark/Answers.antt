use Rattle.std.proofs.Common.{◌≡◌, ◌∙◌, sym, ap, subst, false}
use Rattle.box_specs.specs.Span.{Span, lists}
use Rattle.box_specs.specs.Validity.{is_listed}
use Rattle.cert_check.proofs.Marking.{mark_none, mark_some}
use Rattle.cert_check.proofs.marks.mark.Goals as goal

pub returns-in-Some : goal.returns-in-Some
returns-in-Some g c =
    mark_some (g.L.Landscape.land c.args.land.now) (lists c.args.listed.now) c.args.marks.now.items c.args.part.now c.args.has_line c.in-Some.i
    c.requires.sorted c.requires.long c.if-has_line.true
    c.in-Some.ensures.index.0 (c.in-Some.ensures.index.1 ∙ ap (λ (b : Span). b.lo) c.part.view_is)

pub returns-in_default : goal.returns-in_default
returns-in_default g c =
    mark_none (lists c.args.listed.now) c.args.marks.now.items c.args.part.now c.args.has_line c.if-has_line.true
    (subst (λ (b : Span). is_listed (lists c.args.listed.now) b.lo ≡ false) c.part.view_is (sym c.in_default.ensures.listed))
