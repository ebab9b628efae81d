use Rattle.std.proofs.Common.{◌*◌, ◌∙◌, subst, sym}
use Rattle.interval_specs.specs.Operations.{sum_of}
use Rattle.interval_specs.proofs.Ranges.{carry_up_to}
use Rattle.interval_specs.specs.Ranges.{AtLeast}
use Rattle.cmc_specs.specs.Cmc.{chroma_weight}
use Rattle.cmc_specs.proofs.Ranges.{chroma_weight_at_least, chroma_weight_up_to}
use Rattle.lab_parts.proofs.Rooms.{some_units}
use Rattle.cmc_bounds.proofs.Calls.{weight_room}
use Rattle.cmc_bounds.proofs.chroma.chroma_weight.Goals as goal

pub add-requires : goal.add-requires
add-requires g c = weight_room g.S.Scale.unit c.of_ratio-least.result c.chroma_gain.result g.S.Scale.most c.of_ratio-least.ensures.is c.chroma_gain.ensures.range

pub returns-clause-is : goal.returns-clause-is
unfolding chroma_weight
returns-clause-is g c = c.add.ensures.is ∙ (λ i. sum_of (c.of_ratio-least.ensures.is i) (c.chroma_gain.ensures.is i))

pub returns-clause-range : goal.returns-clause-range
returns-clause-range g c =
    carry_up_to (6 * g.S.Scale.unit) c.add.result (chroma_weight g.S.Scale.unit c.args.c1) (returns-clause-is g c)
    (chroma_weight_up_to g.S.Scale.unit (1415 * g.S.Scale.unit) c.args.c1 (some_units g.S.Scale.unit g.S.Scale.least) c.requires)

pub returns-clause-least : goal.returns-clause-least
returns-clause-least g c = subst (λ x. AtLeast 637 1000 g.S.Scale.unit x) (sym (returns-clause-is g c)) (chroma_weight_at_least g.S.Scale.unit c.args.c1 g.S.Scale.least)
