use Rattle.mix_model.proofs.MixtureLaws.{mixture_narrows}
use Rattle.mix_model.proofs.laws.mix_in_range.Goals as goal

pub returns : goal.returns
returns c = mixture_narrows
