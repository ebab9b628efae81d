use Rattle.std.proofs.Common.{arith}
use Rattle.std.proofs.lemmas.List.Elements.{All-push}
use Rattle.spectral_tables.specs.Curve.{IsReflectance}
use Rattle.demo_jobs.specs.Cloths.{substrate_at}
use Rattle.demo_jobs.proofs.ListFacts.{index_more}
use Rattle.demo_jobs.proofs.cloths.substrate.Goals as goal

pub loop-index-preserved : goal.loop-index-preserved
loop-index-preserved c = record {
  so_far = index_more (substrate_at) c.loop-index.index c.substrate_at.result c.loop-index.millionths.items c.push.new.self.items c.loop-index.invariant.so_far c.substrate_at.ensures.is c.push.ensures.items;
  range = rw c.push.ensures.items (All-push IsReflectance c.loop-index.millionths.items c.substrate_at.result c.loop-index.invariant.range c.substrate_at.ensures.range);
  count = omega arith;
}
