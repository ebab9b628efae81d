use Rattle.std.proofs.Common.{arith}
use Rattle.demo_jobs.specs.Draws.{draws, draws_after}
use Rattle.demo_jobs.proofs.DrawFacts.{draws_end, draws_more}
use Rattle.demo_jobs.proofs.draws.draws.Goals as goal

pub loop-preserved : goal.loop-preserved
loop-preserved c = record {
  so_far = draws_more 30 c.loop.counter c.loop.state c.next_state-state.result c.drawn.result c.loop.draws.items c.push.new.self.items (draws_after 30 c.args.number) c.loop-test.true c.next_state-state.ensures c.drawn.ensures c.loop.invariant.so_far c.push.ensures.items;
  count = omega arith;
}

pub returns-clause-is : goal.returns-clause-is
unfolding draws
returns-clause-is c = draws_end 30 c.loop.counter c.loop.state c.loop.draws.items (draws_after 30 c.args.number) (omega arith) c.loop.invariant.so_far
