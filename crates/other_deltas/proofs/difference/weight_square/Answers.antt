use Rattle.std.proofs.Common.{◌*◌, subst, sym, lit≤}
use Rattle.interval_specs.specs.Ranges.{AtLeast}
use Rattle.interval_specs.proofs.Ranges.{carry_up_to}
use Rattle.lab_parts.proofs.Rooms.{square_room, up_to_magnitude}
use Rattle.delta_specs.proofs.Ranges.{weight_square_at_least, weight_square_up_to}
use Rattle.other_deltas.proofs.difference.weight_square.Goals as goal

pub square-requires : goal.square-requires
square-requires g c = square_room g.S.Scale.unit 70 c.args.sh g.S.Scale.most (lit≤ tt) (up_to_magnitude _ c.args.sh c.requires.range)

pub returns-clause-range : goal.returns-clause-range
returns-clause-range g c = carry_up_to (4900 * g.S.Scale.unit) c.square.result _ c.square.ensures.is (weight_square_up_to g.S.Scale.unit c.args.sh g.S.Scale.least c.requires.range)

pub returns-clause-least : goal.returns-clause-least
returns-clause-least g c =
    subst (λ x. AtLeast 1 2 g.S.Scale.unit x) (sym c.square.ensures.is) (weight_square_at_least g.S.Scale.unit c.args.sh g.S.Scale.least c.requires.range.ordered c.requires.least)
