use Rattle.std.proofs.Common.{◌≡◌, true, subst, sym, ap, ◌∙◌}
use Rattle.box_specs.specs.Span.{IsBox}
use Rattle.box_specs.specs.Splits.{CutAt, cut_of, is_cut}
use Rattle.box_specs.proofs.Cuts.{cut_fits, is_cut_from}
use Rattle.box_core.proofs.part.split.Goals as goal

pub lower_half-requires : goal.lower_half-requires
lower_half-requires c =
    let at = c.cut_of-cut.ensures.is ∙ ap cut_of (λ i. record { lo = c.as_slice.ensures.value i; hi = c.as_slice-2.ensures.value i }) ∙ ap cut_of c.part.view_is in
    let box = subst IsBox c.part.view_is c.part.invariant.0 in
    let P : CutAt → Type 0 = λ cut. is_cut c.args.part.now cut ≡ true in
    subst P (sym at) (is_cut_from c.args.part.now (cut_of c.args.part.now) (cut_fits c.args.part.now box c.requires))

pub upper_half-requires : goal.upper_half-requires
upper_half-requires c =
    let at = c.cut_of-cut.ensures.is ∙ ap cut_of (λ i. record { lo = c.as_slice.ensures.value i; hi = c.as_slice-2.ensures.value i }) ∙ ap cut_of c.part.view_is in
    let box = subst IsBox c.part.view_is c.part.invariant.0 in
    let P : CutAt → Type 0 = λ cut. is_cut c.args.part.now cut ≡ true in
    subst P (sym at) (is_cut_from c.args.part.now (cut_of c.args.part.now) (cut_fits c.args.part.now box c.requires))
