use Rattle.mix_model.proofs.MixtureLaws.{mixture_encloses}
use Rattle.mix_model.proofs.laws.mix_in_scale.Goals as goal

pub returns : goal.returns
returns c = mixture_encloses
