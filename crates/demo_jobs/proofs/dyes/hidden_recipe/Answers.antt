use Rattle.std.proofs.Common.{◌≤◌, arith}
use Rattle.std.proofs.lemmas.List.Elements.{All-push}
use Rattle.demo_jobs.specs.Dyes.{hidden_steps}
use Rattle.demo_jobs.proofs.ListFacts.{index_more}
use Rattle.demo_jobs.proofs.dyes.hidden_recipe.Goals as goal

pub loop-index-preserved : goal.loop-index-preserved
loop-index-preserved c = record {
  so_far = index_more (hidden_steps c.args.draws.now) c.loop-index.index c.hidden_steps.result c.loop-index.steps.items c.push.new.self.items c.loop-index.invariant.so_far c.hidden_steps.ensures.is c.push.ensures.items;
  few = rw c.push.ensures.items (All-push (λ n. n ≤ 400) c.loop-index.steps.items c.hidden_steps.result c.loop-index.invariant.few c.hidden_steps.ensures.few);
  count = omega arith;
}
