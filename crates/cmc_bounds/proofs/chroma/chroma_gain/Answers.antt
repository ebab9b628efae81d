use Rattle.std.proofs.Common.{◌*◌, ◌∙◌, subst, sym, lit≤}
use Rattle.interval_specs.specs.Ends.{IsHeld}
use Rattle.interval_specs.proofs.Ranges.{carry_up_to}
use Rattle.fix_bounds.proofs.Passed.{read}
use Rattle.cmc_specs.specs.Cmc.{chroma_denominator, chroma_gain, chroma_numerator}
use Rattle.cmc_specs.proofs.Ranges.{chroma_gain_up_to}
use Rattle.lab_parts.proofs.Rooms.{held_up_to, some_units, up_to_magnitude}
use Rattle.cmc_bounds.proofs.Outward.{ends_same, high_end_small, low_end_small}
use Rattle.cmc_bounds.proofs.chroma.chroma_gain.Goals as goal

pub gain_at-low-requires : goal.gain_at-low-requires
gain_at-low-requires g c = low_end_small _ c.args.c1 (1415 * g.S.Scale.unit) (read _ _ c.lo.type_inv c.lo.ensures.is) (up_to_magnitude _ c.args.c1 c.requires)

pub gain_at-high-requires : goal.gain_at-high-requires
gain_at-high-requires g c = high_end_small _ c.args.c1 (1415 * g.S.Scale.unit) (read _ _ c.hi.type_inv c.hi.ensures.is) (up_to_magnitude _ c.args.c1 c.requires)

pub outward-requires-clause-held : goal.outward-requires-clause-held
unfolding chroma_gain
outward-requires-clause-held g c =
    let n = g.S.Scale.unit in
    let same = ends_same (λ t. chroma_numerator n t) (λ t. chroma_denominator n t) _ _ c.args.c1 _ _ _ _ (read _ _ c.lo.type_inv c.lo.ensures.is) (read _ _ c.hi.type_inv c.hi.ensures.is)
    c.gain_at-low.ensures.numerator c.gain_at-low.ensures.denominator c.gain_at-high.ensures.numerator c.gain_at-high.ensures.denominator in
    subst IsHeld (sym same) (held_up_to n 5 (chroma_gain n c.args.c1) g.S.Scale.most (lit≤ tt) (chroma_gain_up_to n (1415 * n) c.args.c1 (some_units n g.S.Scale.least) c.requires))

pub returns-clause-is : goal.returns-clause-is
unfolding chroma_gain
returns-clause-is g c =
    let n = g.S.Scale.unit in
    c.outward.ensures.is
    ∙ ends_same (λ t. chroma_numerator n t) (λ t. chroma_denominator n t) _ _ c.args.c1 _ _ _ _ (read _ _ c.lo.type_inv c.lo.ensures.is) (read _ _ c.hi.type_inv c.hi.ensures.is)
    c.gain_at-low.ensures.numerator c.gain_at-low.ensures.denominator c.gain_at-high.ensures.numerator c.gain_at-high.ensures.denominator

pub returns-clause-range : goal.returns-clause-range
returns-clause-range g c =
    carry_up_to (5 * g.S.Scale.unit) c.outward.result (chroma_gain g.S.Scale.unit c.args.c1) (returns-clause-is g c)
    (chroma_gain_up_to g.S.Scale.unit (1415 * g.S.Scale.unit) c.args.c1 (some_units g.S.Scale.unit g.S.Scale.least) c.requires)
