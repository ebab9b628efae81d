use Rattle.mix_model.proofs.StrengthLaws.{weak_reflects}
use Rattle.mix_model.proofs.laws.weak.Goals as goal

pub returns : goal.returns
returns c = weak_reflects
