use Rattle.mix_model.proofs.ReflectanceLaws.{reflectance_narrows}
use Rattle.mix_model.proofs.laws.reflect_in_range.Goals as goal

pub returns : goal.returns
returns c = reflectance_narrows
