use Rattle.std.proofs.Common.{◌<◌, ◌∙◌, length, arith}
use Rattle.box_specs.proofs.Cuts.{same_count}
use Rattle.box_core.proofs.Splitting.{next_inside, widest_next}
use Rattle.box_core.proofs.cutting.widest.Goals as goal

pub loop-i-preserved : goal.loop-i-preserved
loop-i-preserved c =
    let high : c.loop-i.i < length c.args.high.now = omega (arith, same_count c.args.low.now c.args.high.now c.requires.ordered, c.loop-i-test.true) in
    record {
      so_far = widest_next c.loop-i.best c.wider-best.result c.loop-i.i c.args.low.now c.args.high.now c.loop-i-test.true high c.wider-best.ensures ∙ c.loop-i.invariant.so_far;
      inside = next_inside c.loop-i.best c.wider-best.result c.loop-i.i _ (length c.args.low.now) _ c.loop-i.invariant.inside c.loop-i-test.true c.wider-best.ensures;
    }
