use Rattle.mix_model.proofs.MixtureLaws.{base_encloses}
use Rattle.mix_model.proofs.laws.base.Goals as goal

pub returns : goal.returns
returns c = base_encloses
