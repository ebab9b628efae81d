use Rattle.std.proofs.Common.{◌∙◌, sym, ap}
use Rattle.box_specs.specs.declared.certificate.Why.TheVariants.{NotPassing, NotUndecided}
use Rattle.box_specs.specs.Landscape.{judgement}
use Rattle.box_specs.specs.Span.{lists}
use Rattle.box_specs.specs.Validity.{line_fault}
use Rattle.cert_check.specs.Walk.{is_judged_as, recipe_fault}
use Rattle.cert_check.proofs.Recipes.{pass_is, undecided_is}
use Rattle.cert_check.proofs.lines.check_line.Goals as goal

pub returns-in-Undecided-clause-is : goal.returns-in-Undecided-clause-is
returns-in-Undecided-clause-is g c =
    let l = g.L.Landscape.land c.args.land.now in
    let b = c.args.whole.now.part in
    let listed = lists c.args.stance.now.listed.now in
    let matched = lists c.args.stance.now.matched.now in
    c.recipe_fault-fault.ensures.is ∙ ap (λ x. recipe_fault (is_judged_as x (judgement l b)) NotUndecided listed b) c.in-Undecided.is
    ∙ undecided_is l c.requires.ready.lawful c.args.stance.now.cutoff matched listed b c.requires.part
    ∙ ap (line_fault l c.args.stance.now.cutoff matched listed b) (sym c.in-Undecided.is)

pub returns-in-Pass-clause-is : goal.returns-in-Pass-clause-is
returns-in-Pass-clause-is g c =
    let l = g.L.Landscape.land c.args.land.now in
    let b = c.args.whole.now.part in
    let listed = lists c.args.stance.now.listed.now in
    let matched = lists c.args.stance.now.matched.now in
    c.recipe_fault-fault-in-Pass.ensures.is ∙ ap (λ x. recipe_fault (is_judged_as x (judgement l b)) NotPassing matched b) c.in-Pass.is
    ∙ pass_is l c.requires.ready.lawful c.args.stance.now.cutoff matched listed b c.requires.part
    ∙ ap (line_fault l c.args.stance.now.cutoff matched listed b) (sym c.in-Pass.is)
