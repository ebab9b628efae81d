use Rattle.std.proofs.Common.{◌≡◌, ◌*◌, ◌<◌, ℤ, [], length, ap, ◌∙◌, SFits, rules, arith}
use Rattle.std.specs.Int.{w64}
use Rattle.std.proofs.lemmas.Int.{to_z-of_z}
use Rattle.interval_specs.specs.Ends.{nothing}
use Rattle.interval_specs.proofs.Additions.{nothing-sum}
use Rattle.interval_specs.specs.Operations.{sum_of, multiple_of}
use Rattle.spectral_tables.specs.WeightTable.{magnitude_sum}
use Rattle.tristimulus.specs.Ratios.{weighted_sum}
use Rattle.tristimulus.proofs.Sums.{step-kept, sum-more, sum-end, nothing-magnitude}
use Rattle.tristimulus.proofs.white_ratios.weighted_sum.Goals as goal

pub loop-wave-init : goal.loop-wave-init
loop-wave-init g c =
    let empty : c.of_ends-sum.result ≡ nothing = c.of_ends-sum.ensures.is in
    record { so_far = rw empty (nothing-sum (weighted_sum c.args.column c.args.weights.now.weights c.args.sample.now)); magnitude = rw empty (nothing-magnitude (magnitude_sum c.args.column [] * g.S.Scale.unit)) }

pub scale_by-part-requires : goal.scale_by-part-requires
scale_by-part-requires g c =
    let end = c.waves-wave-end in
    let s = step-kept c.args.column c.loop-wave.wave end.result g.S.Scale.unit c.args.weights.now c.loop-wave.sum c.at.result end.ensures.held c.requires.column c.loop-wave-test.true end.ensures.is g.S.Scale.most c.at.ensures.range c.loop-wave.invariant.magnitude in
    let fits : SFits w64 c.weight_at.result = search rules in
    rw (to_z-of_z w64 c.weight_at.result fits, c.weight_at.ensures.is) s.factor

pub add-sum-requires : goal.add-sum-requires
add-sum-requires g c =
    let end = c.waves-wave-end in
    let s = step-kept c.args.column c.loop-wave.wave end.result g.S.Scale.unit c.args.weights.now c.loop-wave.sum c.at.result end.ensures.held c.requires.column c.loop-wave-test.true end.ensures.is g.S.Scale.most c.at.ensures.range c.loop-wave.invariant.magnitude in
    let fits : SFits w64 c.weight_at.result = search rules in
    rw (c.scale_by-part.ensures.is, to_z-of_z w64 c.weight_at.result fits, c.weight_at.ensures.is) s.room

pub loop-wave-preserved : goal.loop-wave-preserved
loop-wave-preserved g c =
    let triples = c.args.weights.now.weights in
    let end = c.waves-wave-end in
    let s = step-kept c.args.column c.loop-wave.wave end.result g.S.Scale.unit c.args.weights.now c.loop-wave.sum c.at.result end.ensures.held c.requires.column c.loop-wave-test.true end.ensures.is g.S.Scale.most c.at.ensures.range c.loop-wave.invariant.magnitude in
    let lt : c.loop-wave.wave < length triples = omega (arith, c.loop-wave-test.true, end.ensures.is) in
    let within : c.loop-wave.wave < length c.args.sample.now = omega (arith, lt, c.requires.waves end.ensures.held) in
    let fits : SFits w64 c.weight_at.result = search rules in
    let weight = to_z-of_z w64 c.weight_at.result fits ∙ c.weight_at.ensures.is in
    let part = c.scale_by-part.ensures.is ∙ ap (λ (z : ℤ). multiple_of z c.at.result) weight in
    let added = c.add-sum.ensures.is ∙ ap (sum_of c.loop-wave.sum) part in
    record {
      so_far = rw added (sum-more c.args.column triples c.args.sample.now c.loop-wave.wave c.loop-wave.sum c.at.result _ lt c.at.ensures.is within c.loop-wave.invariant.so_far);
      magnitude = rw added s.magnitude;
    }

pub returns-clause-is : goal.returns-clause-is
returns-clause-is g c =
    sum-end c.args.column c.args.weights.now.weights c.args.sample.now c.loop-wave.wave c.loop-wave.sum _ (omega (arith, c.loop-wave-test.false, c.waves-wave-end.ensures.is)) c.loop-wave.invariant.so_far
