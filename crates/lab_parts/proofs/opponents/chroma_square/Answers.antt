use Rattle.std.proofs.Common.{◌*◌, ◌^◌, ◌∙◌, lit≤}
use Rattle.interval_specs.specs.Operations.{sum_of}
use Rattle.interval_specs.proofs.Ranges.{carry_up_to}
use Rattle.lab_parts.specs.Parts.{chroma_square}
use Rattle.lab_parts.proofs.Ranges.{chroma_square_up_to, squares_up_to}
use Rattle.lab_parts.proofs.Rooms.{some_units, square_room, sum_room, up_to_magnitude}
use Rattle.lab_parts.proofs.Terms.{delta_square}
use Rattle.lab_parts.proofs.opponents.chroma_square.Goals as goal

pub square-first-requires : goal.square-first-requires
square-first-requires g c = square_room g.S.Scale.unit 2000 c.args.a g.S.Scale.most (lit≤ tt) c.requires.a.small

pub square-second-requires : goal.square-second-requires
square-second-requires g c = square_room g.S.Scale.unit 2000 c.args.b g.S.Scale.most (lit≤ tt) c.requires.b.small

pub add-requires : goal.add-requires
add-requires g c =
    let some = some_units g.S.Scale.unit g.S.Scale.least in
    sum_room g.S.Scale.unit (4 * 10 ^ 6) (4 * 10 ^ 6) c.square-first.result c.square-second.result g.S.Scale.most (lit≤ tt) (lit≤ tt)
    (up_to_magnitude _ c.square-first.result (delta_square g.S.Scale.unit c.args.a c.square-first.result some c.requires.a c.square-first.ensures.is))
    (up_to_magnitude _ c.square-second.result (delta_square g.S.Scale.unit c.args.b c.square-second.result some c.requires.b c.square-second.ensures.is))

pub returns-clause-is : goal.returns-clause-is
unfolding chroma_square
returns-clause-is g c = c.add.ensures.is ∙ (λ i. sum_of (c.square-first.ensures.is i) (c.square-second.ensures.is i))

pub returns-clause-range : goal.returns-clause-range
returns-clause-range g c =
    carry_up_to (8 * 10 ^ 6 * g.S.Scale.unit) c.add.result (chroma_square g.S.Scale.unit c.args.a c.args.b) (returns-clause-is g c)
    (squares_up_to g.S.Scale.unit c.args.a c.args.b (some_units g.S.Scale.unit g.S.Scale.least) c.requires.a c.requires.b)

pub returns-clause-narrow : goal.returns-clause-narrow
returns-clause-narrow g c s t =
    carry_up_to (2 * 10 ^ 6 * g.S.Scale.unit) c.add.result (chroma_square g.S.Scale.unit c.args.a c.args.b) (returns-clause-is g c)
    (chroma_square_up_to g.S.Scale.unit c.args.a c.args.b (some_units g.S.Scale.unit g.S.Scale.least) s t)
