use Rattle.std.proofs.Common.{◌∙◌, ap, lit≤}
use Rattle.interval_specs.specs.Operations.{fraction_of, sum_of}
use Rattle.interval_specs.proofs.Ranges.{carry_up_to}
use Rattle.cmc_specs.specs.Cmc.{along_12, cosine_magnitude, second_form}
use Rattle.cmc_specs.proofs.Ranges.{second_form_up_to, cosine_magnitude_up_to}
use Rattle.cmc_bounds.proofs.AngleCalls.{form_room}
use Rattle.cmc_bounds.proofs.hue.second_form.Goals as goal

pub add-requires : goal.add-requires
add-requires g c =
    form_room g.S.Scale.unit 56 2 c.cosine_magnitude-magnitude.result c.of_ratio-least.result c.ratio_up.result g.S.Scale.most (lit≤ tt) (lit≤ tt) c.cosine_magnitude-magnitude.ensures.range c.of_ratio-least.ensures.is c.ratio_up.ensures.is

pub returns-clause-is : goal.returns-clause-is
unfolding second_form along_12
returns-clause-is g c =
    let n = g.S.Scale.unit in
    let magnitude = c.cosine_magnitude-magnitude.ensures.is ∙ ap (λ w. cosine_magnitude n w c.args.c1) c.projection.ensures.is in
    let part = c.ratio_up.ensures.is ∙ ap (λ x. fraction_of 2 10 x) magnitude in
    c.add.ensures.is ∙ (λ i. sum_of (c.of_ratio-least.ensures.is i) (part i))

pub returns-clause-range : goal.returns-clause-range
returns-clause-range g c =
    let n = g.S.Scale.unit in
    let chroma = c.requires.chroma.range in
    carry_up_to n c.add.result (second_form n c.args.a c.args.b c.args.c1) (returns-clause-is g c)
    (second_form_up_to n c.args.a c.args.b c.args.c1 g.S.Scale.least (cosine_magnitude_up_to n (along_12 n c.args.a c.args.b) c.args.c1 chroma.not_negative chroma.ordered))
