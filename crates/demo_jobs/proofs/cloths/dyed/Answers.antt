use Rattle.std.proofs.Common.{◌≡◌, ap, map, ◌∙◌, arith}
use Rattle.std.proofs.lemmas.List.Elements.{All-push}
use Rattle.spectral_tables.specs.Curve.{IsReflectance}
use Rattle.std.specs.List.{range_with_len}
use Rattle.demo_jobs.specs.Cloths.{dyed, dyed_at, indices}
use Rattle.demo_jobs.proofs.ListFacts.{index_more}
use Rattle.demo_jobs.proofs.cloths.dyed.Goals as goal

pub loop-index-preserved : goal.loop-index-preserved
loop-index-preserved c = record {
  so_far = index_more (dyed_at c.args.dye.now c.args.units) c.loop-index.index c.dyed_at.result c.loop-index.millionths.items c.push.new.self.items c.loop-index.invariant.so_far c.dyed_at.ensures.is c.push.ensures.items;
  range = rw c.push.ensures.items (All-push IsReflectance c.loop-index.millionths.items c.dyed_at.result c.loop-index.invariant.range c.dyed_at.ensures.range);
  count = omega arith;
}

pub returns-clause-is : goal.returns-clause-is
unfolding dyed indices
returns-clause-is c =
    let all : c.loop-index.index ≡ 31 = omega arith in
    c.of.ensures.is ∙ c.as_slice.ensures.value ∙ c.loop-index.invariant.so_far ∙ ap (λ k. map (dyed_at c.args.dye.now c.args.units) (range_with_len 0 k)) all
