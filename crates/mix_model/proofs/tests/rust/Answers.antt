use Rattle.std.proofs.Common.{◌∙◌, refl}
use Rattle.mix_model.specs.Samples.{rust}
use Rattle.mix_model.proofs.tests.rust.Goals as goal

pub returns : goal.returns
unfolding rust
returns c = c.of.ensures.is ∙ rw (c.push.ensures.items, c.new-dyeings.ensures, c.even.ensures, c.even-2.ensures) refl
