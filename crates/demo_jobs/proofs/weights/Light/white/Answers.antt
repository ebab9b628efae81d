use Rattle.std.proofs.Common.{refl}
use Rattle.demo_jobs.specs.Cloths.{indices}
use Rattle.demo_jobs.specs.WeightsText.{weights_at, white_of}
use Rattle.demo_jobs.proofs.weights.Light.white.Goals as goal

pub returns-in-First : goal.returns-in-First
unfolding white_of weights_at indices
returns-in-First c = rw c.in-First.is refl

pub returns-in-Second : goal.returns-in-Second
unfolding white_of weights_at indices
returns-in-Second c = rw c.in-Second.is refl
