use Rattle.std.proofs.Common.{◌∙◌, ap, lit≤}
use Rattle.interval_specs.specs.Operations.{difference_of}
use Rattle.lab_parts.proofs.Ranges.{chroma_delta}
use Rattle.lab_parts.proofs.Rooms.{sum_room, up_to_magnitude}
use Rattle.lab_parts.proofs.difference.chroma_difference.Goals as goal

pub sub-requires : goal.sub-requires
sub-requires g c =
    sum_room g.S.Scale.unit 1415 1415 c.chroma.result c.args.c1 g.S.Scale.most (lit≤ tt) (lit≤ tt) (up_to_magnitude _ c.chroma.result c.chroma.ensures.range.range) (up_to_magnitude _ c.args.c1 c.requires)

pub returns-clause-is : goal.returns-clause-is
returns-clause-is g c = c.sub.ensures.is ∙ ap (λ x. difference_of x c.args.c1) c.chroma.ensures.is

pub returns-clause-range : goal.returns-clause-range
returns-clause-range g c = chroma_delta g.S.Scale.unit c.chroma.result c.args.c1 c.sub.result c.chroma.ensures.range.range c.requires c.sub.ensures.is
