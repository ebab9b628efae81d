use Rattle.std.proofs.Common.{arith}
use Rattle.std.proofs.lemmas.List.Elements.{All-push}
use Rattle.spectral_tables.specs.Curve.{IsReflectance}
use Rattle.demo_jobs.specs.Standard.{standard_at}
use Rattle.demo_jobs.proofs.ListFacts.{found_at, item_more}
use Rattle.demo_jobs.proofs.standard.curve_of.Goals as goal

pub loop-index-preserved : goal.loop-index-preserved
loop-index-preserved c = record {
  so_far = item_more standard_at c.args.spectrum.now c.loop-index.index c.at.result c.standard_at.result c.loop-index.millionths.items c.push.new.self.items (omega arith) (found_at c.args.spectrum.now c.loop-index.index c.at.result c.at.ensures.is) c.loop-index.invariant.so_far c.standard_at.ensures.is c.push.ensures.items;
  range = rw c.push.ensures.items (All-push IsReflectance c.loop-index.millionths.items c.standard_at.result c.loop-index.invariant.range c.standard_at.ensures.range);
  count = omega arith;
}
