use Rattle.std.proofs.Common.{◌*◌, lit≤, sym, subst}
use Rattle.interval_specs.proofs.Ranges.{carry_up_to}
use Rattle.interval_specs.specs.Ranges.{AtLeast}
use Rattle.cmc_specs.specs.Cmc.{hue_weight}
use Rattle.cmc_specs.proofs.Ranges.{hue_weight_at_least, hue_weight_up_to}
use Rattle.lab_parts.proofs.Rooms.{product_room, unit_magnitude, some_units, up_to_magnitude}
use Rattle.cmc_bounds.proofs.Calls.{units_product}
use Rattle.cmc_bounds.proofs.HueCalls.{weight_is}
use Rattle.cmc_bounds.proofs.hue.hue_weight.Goals as goal

pub mul-taken-requires : goal.mul-taken-requires
mul-taken-requires g c = product_room g.S.Scale.unit 1 1 c.args.f c.rest.result g.S.Scale.most (lit≤ tt) (lit≤ tt) (unit_magnitude g.S.Scale.unit c.args.f c.requires.f) (unit_magnitude g.S.Scale.unit c.rest.result c.rest.ensures.range)

pub rest-requires-2 : goal.rest-requires-2
rest-requires-2 g c = units_product g.S.Scale.unit c.args.f c.rest.result c.mul-taken.result (some_units g.S.Scale.unit g.S.Scale.least) c.requires.f c.rest.ensures.range c.mul-taken.ensures.is

pub mul-requires : goal.mul-requires
mul-requires g c = product_room g.S.Scale.unit 6 1 c.args.sc c.rest-2.result g.S.Scale.most (lit≤ tt) (lit≤ tt) (up_to_magnitude _ c.args.sc c.requires.sc) (unit_magnitude g.S.Scale.unit c.rest-2.result c.rest-2.ensures.range)

pub returns-clause-is : goal.returns-clause-is
returns-clause-is g c =
    weight_is g.S.Scale.unit c.args.sc c.args.f c.args.t c.rest.result c.mul-taken.result c.rest-2.result c.mul.result c.rest.ensures.is c.mul-taken.ensures.is c.rest-2.ensures.is c.mul.ensures.is

pub returns-clause-range : goal.returns-clause-range
returns-clause-range g c =
    carry_up_to (6 * g.S.Scale.unit) c.mul.result (hue_weight g.S.Scale.unit c.args.sc c.args.f c.args.t) (returns-clause-is g c)
    (hue_weight_up_to g.S.Scale.unit c.args.sc c.args.f c.args.t (some_units g.S.Scale.unit g.S.Scale.least) c.requires.sc c.requires.f c.requires.t)

pub returns-clause-least : goal.returns-clause-least
returns-clause-least g c =
    subst (λ x. AtLeast 22 100 g.S.Scale.unit x) (sym (returns-clause-is g c))
    (hue_weight_at_least g.S.Scale.unit c.args.sc c.args.f c.args.t g.S.Scale.least c.requires.sc.ordered c.requires.sc_least c.requires.f c.requires.t.ordered c.requires.t_least)
