use Rattle.std.proofs.Common.{◌∙◌, List, ℕ, sym, subst}
use Rattle.box_specs.specs.Span.{IsWithin}
use Rattle.cert_check.proofs.Within.{in_top_is}
use Rattle.cert_check.proofs.list.is_in_order.Goals as goal

pub is_later-requires-clause-recipe : goal.is_later-requires-clause-recipe
is_later-requires-clause-recipe g c =
    let l = g.L.Landscape.land c.args.land.now in
    subst (λ (r : List ℕ). IsWithin r l.top) c.recipe_at-steps.ensures
    (in_top_is l c.recipe_at-steps.result.now.items c.args.top.now c.requires.lawful.top c.requires.top (sym c.is_in_box.ensures ∙ c.if-not-is_in_box.false))

pub is_early-requires-clause-recipe : goal.is_early-requires-clause-recipe
is_early-requires-clause-recipe g c =
    in_top_is (g.L.Landscape.land c.args.land.now) c.recipe_at-steps.result.now.items c.args.top.now c.requires.lawful.top c.requires.top
    (sym c.is_in_box.ensures ∙ c.if-not-is_in_box.false)
