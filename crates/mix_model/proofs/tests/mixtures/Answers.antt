use Rattle.std.proofs.Common.{◌^◌, ◌∙◌, ap, lit≤}
use Rattle.mix_model.specs.Base.{base_at}
use Rattle.mix_model.proofs.Examples.{mixes}
use Rattle.mix_model.proofs.tests.mixtures.Goals as goal

pub mix-requires : goal.mix-requires
mix-requires g c = mixes c.of-base.result c.rust.result 100 (c.of-base.ensures.is ∙ ap (base_at (10 ^ 12)) c.even.ensures) c.rust.ensures (lit≤ tt)

pub of-sums-requires : goal.of-sums-requires
of-sums-requires g c = (lit≤ tt, mixes c.of-base.result c.rust.result 0 (c.of-base.ensures.is ∙ ap (base_at (10 ^ 12)) c.even.ensures) c.rust.ensures (lit≤ tt))

pub mix-requires-2 : goal.mix-requires-2
mix-requires-2 g c = mixes c.of-base.result c.rust.result 0 (c.of-base.ensures.is ∙ ap (base_at (10 ^ 12)) c.even.ensures) c.rust.ensures (lit≤ tt)
