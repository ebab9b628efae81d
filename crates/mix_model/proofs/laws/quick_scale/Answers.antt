use Rattle.mix_model.proofs.QuickScale.{quick_is_near}
use Rattle.mix_model.proofs.laws.quick_scale.Goals as goal

pub returns : goal.returns
returns c = quick_is_near
