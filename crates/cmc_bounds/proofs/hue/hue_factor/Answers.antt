use Rattle.std.proofs.Common.{◌∙◌, subst, sym}
use Rattle.interval_specs.specs.Ranges.{AtLeast}
use Rattle.cmc_specs.specs.Cmc.{first_form, hue_factor, hue_sum_15, hue_sum_16, is_inside, is_outside, second_form}
use Rattle.cmc_specs.proofs.Ranges.{hue_factor_at_least}
use Rattle.cmc_bounds.proofs.Chosen.{both_chosen, first_chosen, hull_within, second_chosen}
use Rattle.cmc_bounds.proofs.hue.hue_factor.Goals as goal

pub returns-then-is_outside-clause-is : goal.returns-then-is_outside-clause-is
unfolding hue_factor hue_sum_15 hue_sum_16
returns-then-is_outside-clause-is g c =
    let n = g.S.Scale.unit in
    let p = hue_sum_15 n c.args.a c.args.b in
    let r = hue_sum_16 n c.args.a c.args.b in
    let outside = c.is_outside.ensures ∙ (λ i. is_outside (c.projection-p.ensures.is i) (c.projection-r.ensures.is i)) in
    first_chosen (is_outside p r) (is_inside p r) (first_form n c.args.a c.args.b c.args.c1) (second_form n c.args.a c.args.b c.args.c1) c.first_form.result (sym outside ∙ c.if-is_outside.true) c.first_form.ensures.is

pub returns-then-is_outside-clause-least : goal.returns-then-is_outside-clause-least
returns-then-is_outside-clause-least g c =
    let chroma = c.requires.chroma.range in
    subst (λ x. AtLeast 35 100 g.S.Scale.unit x) (sym (returns-then-is_outside-clause-is g c)) (hue_factor_at_least g.S.Scale.unit c.args.a c.args.b c.args.c1 g.S.Scale.least chroma.not_negative chroma.ordered)

pub returns-then-is_inside-clause-is : goal.returns-then-is_inside-clause-is
unfolding hue_factor hue_sum_15 hue_sum_16
returns-then-is_inside-clause-is g c =
    let n = g.S.Scale.unit in
    let p = hue_sum_15 n c.args.a c.args.b in
    let r = hue_sum_16 n c.args.a c.args.b in
    let outside = c.is_outside.ensures ∙ (λ i. is_outside (c.projection-p.ensures.is i) (c.projection-r.ensures.is i)) in
    let inside = c.is_inside.ensures ∙ (λ i. is_inside (c.projection-p.ensures.is i) (c.projection-r.ensures.is i)) in
    second_chosen (is_outside p r) (is_inside p r) (first_form n c.args.a c.args.b c.args.c1) (second_form n c.args.a c.args.b c.args.c1) c.second_form.result (sym outside ∙ c.if-is_outside.false) (sym inside ∙ c.if-is_inside.true) c.second_form.ensures.is

pub returns-then-is_inside-clause-least : goal.returns-then-is_inside-clause-least
returns-then-is_inside-clause-least g c =
    let chroma = c.requires.chroma.range in
    subst (λ x. AtLeast 35 100 g.S.Scale.unit x) (sym (returns-then-is_inside-clause-is g c)) (hue_factor_at_least g.S.Scale.unit c.args.a c.args.b c.args.c1 g.S.Scale.least chroma.not_negative chroma.ordered)

pub returns-else-is_inside-clause-is : goal.returns-else-is_inside-clause-is
unfolding hue_factor hue_sum_15 hue_sum_16
returns-else-is_inside-clause-is g c =
    let n = g.S.Scale.unit in
    let p = hue_sum_15 n c.args.a c.args.b in
    let r = hue_sum_16 n c.args.a c.args.b in
    let outside = c.is_outside.ensures ∙ (λ i. is_outside (c.projection-p.ensures.is i) (c.projection-r.ensures.is i)) in
    let inside = c.is_inside.ensures ∙ (λ i. is_inside (c.projection-p.ensures.is i) (c.projection-r.ensures.is i)) in
    both_chosen (is_outside p r) (is_inside p r) (first_form n c.args.a c.args.b c.args.c1) (second_form n c.args.a c.args.b c.args.c1) c.first_form-else-is_inside.result c.second_form-else-is_inside.result c.hull.result
    (sym outside ∙ c.if-is_outside.false) (sym inside ∙ c.if-is_inside.false) c.first_form-else-is_inside.ensures.is c.second_form-else-is_inside.ensures.is c.hull.ensures.is

pub returns-else-is_inside-clause-range : goal.returns-else-is_inside-clause-range
returns-else-is_inside-clause-range g c = hull_within g.S.Scale.unit c.first_form-else-is_inside.result c.second_form-else-is_inside.result c.hull.result c.first_form-else-is_inside.ensures.range c.second_form-else-is_inside.ensures.range c.hull.ensures.is

pub returns-else-is_inside-clause-least : goal.returns-else-is_inside-clause-least
returns-else-is_inside-clause-least g c =
    let chroma = c.requires.chroma.range in
    subst (λ x. AtLeast 35 100 g.S.Scale.unit x) (sym (returns-else-is_inside-clause-is g c)) (hue_factor_at_least g.S.Scale.unit c.args.a c.args.b c.args.c1 g.S.Scale.least chroma.not_negative chroma.ordered)
