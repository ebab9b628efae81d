use Rattle.std.proofs.Common.{◌*◌, ◌^◌, ◌+◌, ◌∙◌, ap, lit≤}
use Rattle.interval_specs.specs.Ranges.{UpTo}
use Rattle.interval_specs.specs.Operations.{sum_of}
use Rattle.interval_specs.specs.Roots.{sqrt_at}
use Rattle.lab_parts.specs.Parts.{length_at}
use Rattle.lab_parts.proofs.Rooms.{some_units, square_room}
use Rattle.lab_parts.proofs.Terms.{both_room, both_up_to, sum_root, third_room}
use Rattle.lab_parts.proofs.difference.length.Given as given
use Rattle.lab_parts.proofs.difference.length.Goals as goal
use Rattle.lab_parts.proofs.difference.length.Goals.{After-add-both}

both : (g : given.Over) (c : After-add-both g) → UpTo (1600 * 10 ^ 6 * g.S.Scale.unit + 1600 * 10 ^ 6 * g.S.Scale.unit) c.add-both.result
both g c =
    both_up_to g.S.Scale.unit c.args.lightness c.args.chroma c.square.result c.square-2.result c.add-both.result (some_units g.S.Scale.unit g.S.Scale.least) c.requires.lightness c.requires.chroma c.square.ensures.is c.square-2.ensures.is c.add-both.ensures.is

pub square-requires : goal.square-requires
square-requires g c = square_room g.S.Scale.unit 40000 c.args.lightness g.S.Scale.most (lit≤ tt) c.requires.lightness.small

pub square-requires-2 : goal.square-requires-2
square-requires-2 g c = square_room g.S.Scale.unit 40000 c.args.chroma g.S.Scale.most (lit≤ tt) c.requires.chroma.small

pub add-both-requires : goal.add-both-requires
add-both-requires g c =
    both_room g.S.Scale.unit c.args.lightness c.args.chroma c.square.result c.square-2.result g.S.Scale.least g.S.Scale.most c.requires.lightness c.requires.chroma c.square.ensures.is c.square-2.ensures.is

pub add-requires : goal.add-requires
add-requires g c = third_room g.S.Scale.unit c.add-both.result c.args.hue_square g.S.Scale.most (both g c) c.requires.hue

pub sqrt_iv-requires : goal.sqrt_iv-requires
sqrt_iv-requires g c = sum_root c.add-both.result c.args.hue_square c.add.result (both g ((goal.at.sqrt_iv-requires g c).After-add-both)).not_negative c.requires.hue.not_negative c.add.ensures.is

pub returns-clause-is : goal.returns-clause-is
unfolding length_at
returns-clause-is g c =
    let n = g.S.Scale.unit in
    let both = c.add-both.ensures.is ∙ (λ i. sum_of (c.square.ensures.is i) (c.square-2.ensures.is i)) in
    let all = c.add.ensures.is ∙ ap (λ x. sum_of x c.args.hue_square) both in
    c.sqrt_iv.ensures.is ∙ ap (λ x. sqrt_at n x) all
