use Rattle.std.proofs.Common.{◌≡◌, ◌≤◌, All, length, map}
use Rattle.std.specs.List.{range_with_len}
use Rattle.demo_jobs.specs.Dyes.{hidden_steps}
use Rattle.demo_jobs.proofs.dyes.hidden_recipe.Given as goal

abbrev pub invariant-loop-index : goal.invariant-loop-index
invariant-loop-index l = record {
  so_far : l.steps.items ≡ map (hidden_steps l.draws) (range_with_len 0 l.index);
  few : All (λ n. n ≤ 400) l.steps.items;
  count : length l.steps.items ≡ l.index;
}
