use Rattle.std.proofs.Common.{pos, ◌∙◌, ap, lit≤}
use Rattle.interval_specs.specs.Operations.{cut_low_at, difference_of}
use Rattle.lab_parts.specs.Parts.{chroma_square, hue_difference_square}
use Rattle.lab_parts.proofs.Ranges.{coordinates_delta, hue_square_range}
use Rattle.lab_parts.proofs.Rooms.{square_room, sum_room}
use Rattle.lab_parts.proofs.Terms.{squares_room}
use Rattle.lab_parts.proofs.difference.hue_difference_square.Goals as goal

pub sub-requires : goal.sub-requires
sub-requires g c = let q = c.args.sample.now in sum_room g.S.Scale.unit 1000 1000 q.a c.args.a1 g.S.Scale.most (lit≤ tt) (lit≤ tt) q.a_range.small c.requires.a.small

pub sub-requires-2 : goal.sub-requires-2
sub-requires-2 g c = let q = c.args.sample.now in sum_room g.S.Scale.unit 1000 1000 q.b c.args.b1 g.S.Scale.most (lit≤ tt) (lit≤ tt) q.b_range.small c.requires.b.small

pub chroma_square-all-requires-clause-a : goal.chroma_square-all-requires-clause-a
chroma_square-all-requires-clause-a g c = let q = c.args.sample.now in coordinates_delta g.S.Scale.unit q.a c.args.a1 c.sub.result q.a_range c.requires.a c.sub.ensures.is

pub chroma_square-all-requires-clause-b : goal.chroma_square-all-requires-clause-b
chroma_square-all-requires-clause-b g c = let q = c.args.sample.now in coordinates_delta g.S.Scale.unit q.b c.args.b1 c.sub-2.result q.b_range c.requires.b c.sub-2.ensures.is

pub square-requires : goal.square-requires
square-requires g c = square_room g.S.Scale.unit 1415 c.args.dc g.S.Scale.most (lit≤ tt) c.requires.dc.small

pub sub-requires-3 : goal.sub-requires-3
sub-requires-3 g c =
    squares_room g.S.Scale.unit c.chroma_square-all.result c.args.dc c.square.result g.S.Scale.least g.S.Scale.most c.chroma_square-all.ensures.range c.requires.dc c.square.ensures.is

pub returns-clause-is : goal.returns-clause-is
unfolding hue_difference_square
returns-clause-is g c =
    let n = g.S.Scale.unit in
    let all = c.chroma_square-all.ensures.is ∙ (λ i. chroma_square n (c.sub.ensures.is i) (c.sub-2.ensures.is i)) in
    let rest = c.sub-3.ensures.is ∙ (λ i. difference_of (all i) (c.square.ensures.is i)) in
    c.cut_low.ensures.is ∙ ap (λ x. cut_low_at n (pos 0) x) rest

pub returns-clause-range : goal.returns-clause-range
returns-clause-range g c =
    hue_square_range g.S.Scale.unit c.chroma_square-all.result c.args.dc c.square.result c.cut_low.result g.S.Scale.least c.chroma_square-all.ensures.range c.requires.dc c.square.ensures.is
    (c.cut_low.ensures.is ∙ ap (λ x. cut_low_at g.S.Scale.unit (pos 0) x) c.sub-3.ensures.is)
