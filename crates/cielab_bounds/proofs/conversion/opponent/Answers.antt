use Rattle.std.proofs.Common.{◌*◌, ◌^◌, ◌≤◌, ◌∙◌, sym, subst, unsigned_abs}
use Rattle.std.proofs.lemmas.Int.{to_z-of_z}
use Rattle.std.specs.Int.{w64}
use Rattle.interval_specs.specs.Ends.{magnitude_of}
use Rattle.interval_specs.specs.Operations.{difference_of, multiple_of}
use Rattle.interval_specs.proofs.Ranges.{carry_magnitude}
use Rattle.cielab_bounds.proofs.LabRanges.{opponent_magnitude}
use Rattle.cielab_bounds.proofs.LabCalls.{opponent_room}
use Rattle.cielab_bounds.proofs.conversion.opponent.Goals as goal

pub scale_by-requires : goal.scale_by-requires
scale_by-requires g c =
    subst (λ k. magnitude_of c.sub.result * unsigned_abs k ≤ 10 ^ 25) (sym (to_z-of_z w64 c.args.k c.ranges.k))
    (opponent_room g.S.Scale.unit c.args.k c.args.first c.args.second c.sub.result g.S.Scale.most c.requires.k c.requires.first c.requires.second c.sub.ensures.is)

pub returns-clause-range : goal.returns-clause-range
returns-clause-range g c =
    carry_magnitude (1000 * g.S.Scale.unit) c.scale_by.result (multiple_of c.args.k (difference_of c.args.first c.args.second))
    (c.scale_by.ensures.is ∙ (λ i. multiple_of (to_z-of_z w64 c.args.k c.ranges.k i) (c.sub.ensures.is i)))
    (opponent_magnitude g.S.Scale.unit c.args.k c.args.first c.args.second c.requires.k c.requires.first c.requires.second)
