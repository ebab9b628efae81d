use Rattle.std.proofs.Common.{◌*◌, ◌∙◌, subst, sym}
use Rattle.interval_specs.proofs.Ranges.{carry_up_to}
use Rattle.interval_specs.specs.Ranges.{AtLeast}
use Rattle.cmc_specs.specs.Cmc.{high_weight, is_dark, is_light, lightness_weight, low_weight}
use Rattle.cmc_specs.proofs.Ranges.{lightness_weight_at_least, lightness_weight_up_to}
use Rattle.lab_parts.proofs.Rooms.{some_units}
use Rattle.cmc_bounds.proofs.Chosen.{both_chosen, first_chosen, second_chosen}
use Rattle.cmc_bounds.proofs.lightness.lightness_weight.Goals as goal

pub returns-then-is_light-clause-is : goal.returns-then-is_light-clause-is
unfolding lightness_weight
returns-then-is_light-clause-is g c =
    let n = g.S.Scale.unit in
    let l = c.args.l1 in
    first_chosen (is_light n l) (is_dark n l) (high_weight n l) (low_weight n) c.high_weight.result (sym c.is_light.ensures ∙ c.if-is_light.true) c.high_weight.ensures.is

pub returns-then-is_light-clause-least : goal.returns-then-is_light-clause-least
returns-then-is_light-clause-least g c =
    subst (λ x. AtLeast 51 100 g.S.Scale.unit x) (sym (returns-then-is_light-clause-is g c)) (lightness_weight_at_least g.S.Scale.unit c.args.l1 g.S.Scale.least)

pub returns-then-is_dark-clause-is : goal.returns-then-is_dark-clause-is
unfolding lightness_weight
returns-then-is_dark-clause-is g c =
    let n = g.S.Scale.unit in
    let l = c.args.l1 in
    second_chosen (is_light n l) (is_dark n l) (high_weight n l) (low_weight n) c.low_weight.result (sym c.is_light.ensures ∙ c.if-is_light.false) (sym c.is_dark.ensures ∙ c.if-is_dark.true) c.low_weight.ensures.is

pub returns-then-is_dark-clause-least : goal.returns-then-is_dark-clause-least
returns-then-is_dark-clause-least g c =
    subst (λ x. AtLeast 51 100 g.S.Scale.unit x) (sym (returns-then-is_dark-clause-is g c)) (lightness_weight_at_least g.S.Scale.unit c.args.l1 g.S.Scale.least)

pub returns-else-is_dark-clause-is : goal.returns-else-is_dark-clause-is
unfolding lightness_weight
returns-else-is_dark-clause-is g c =
    let n = g.S.Scale.unit in
    let l = c.args.l1 in
    both_chosen (is_light n l) (is_dark n l) (high_weight n l) (low_weight n) c.high_weight-else-is_dark.result c.low_weight-else-is_dark.result c.hull.result
    (sym c.is_light.ensures ∙ c.if-is_light.false) (sym c.is_dark.ensures ∙ c.if-is_dark.false) c.high_weight-else-is_dark.ensures.is c.low_weight-else-is_dark.ensures.is c.hull.ensures.is

pub returns-else-is_dark-clause-range : goal.returns-else-is_dark-clause-range
returns-else-is_dark-clause-range g c =
    carry_up_to (3 * g.S.Scale.unit) c.hull.result (lightness_weight g.S.Scale.unit c.args.l1) (returns-else-is_dark-clause-is g c)
    (lightness_weight_up_to g.S.Scale.unit c.args.l1 (some_units g.S.Scale.unit g.S.Scale.least) c.requires)

pub returns-else-is_dark-clause-least : goal.returns-else-is_dark-clause-least
returns-else-is_dark-clause-least g c =
    subst (λ x. AtLeast 51 100 g.S.Scale.unit x) (sym (returns-else-is_dark-clause-is g c)) (lightness_weight_at_least g.S.Scale.unit c.args.l1 g.S.Scale.least)
