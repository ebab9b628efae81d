use Rattle.mix_model.proofs.StrengthLaws.{line_strength}
use Rattle.mix_model.proofs.laws.line_strength.Goals as goal

pub returns : goal.returns
returns c = line_strength
