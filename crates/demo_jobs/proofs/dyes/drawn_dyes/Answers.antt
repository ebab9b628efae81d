use Rattle.std.proofs.Common.{arith}
use Rattle.std.proofs.lemmas.List.Elements.{All-push}
use Rattle.demo_jobs.specs.Dyes.{IsDrawn, drawn_dye}
use Rattle.demo_jobs.proofs.ListFacts.{index_more}
use Rattle.demo_jobs.proofs.dyes.drawn_dyes.Goals as goal

pub loop-index-preserved : goal.loop-index-preserved
loop-index-preserved c = record {
  so_far = index_more (drawn_dye c.args.draws.now) c.loop-index.index c.drawn_dye.result c.loop-index.dyes.items c.push.new.self.items c.loop-index.invariant.so_far c.drawn_dye.ensures.is c.push.ensures.items;
  range = rw c.push.ensures.items (All-push IsDrawn c.loop-index.dyes.items c.drawn_dye.result c.loop-index.invariant.range c.drawn_dye.ensures.range);
  count = omega arith;
}
