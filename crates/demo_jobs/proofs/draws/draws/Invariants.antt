use Rattle.std.proofs.Common.{◌≡◌, ◌++◌, ◌-◌, length}
use Rattle.demo_jobs.specs.Draws.{draws_after}
use Rattle.demo_jobs.proofs.draws.draws.Given as goal

abbrev pub invariant-loop : goal.invariant-loop
invariant-loop l = record {
  so_far : l.draws.items ++ draws_after (30 - l.counter) l.state ≡ draws_after 30 l.fn.number;
  count : length l.draws.items ≡ l.counter;
}
