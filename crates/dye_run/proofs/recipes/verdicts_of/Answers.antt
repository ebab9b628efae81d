use Rattle.std.proofs.Common.{arith, rules}
use Rattle.dye_run.proofs.ShowFacts.{verdicts_end, verdicts_more}
use Rattle.dye_run.proofs.recipes.verdicts_of.Goals as goal

pub loop-i-preserved : goal.loop-i-preserved
loop-i-preserved c =
    record {
      so_far = verdicts_more c.args.lights.now c.args.deltas.now c.loop-i.i c.loop-i.verdicts.items c.index-lights-i.result c.index-deltas-i.result c.push.new.self.items (omega arith) (omega (arith, c.requires.count)) c.index-lights-i.is c.index-deltas-i.is c.loop-i.invariant.so_far (rw c.judge_light.ensures at c.push.ensures.items);
      count = search rules;
    }

pub returns-clause-is : goal.returns-clause-is
returns-clause-is c = verdicts_end c.args.lights.now c.args.deltas.now c.loop-i.i c.loop-i.verdicts.items (omega arith) c.loop-i.invariant.so_far
