use Rattle.mix_model.proofs.ReflectanceLaws.{reflectance_encloses}
use Rattle.mix_model.proofs.laws.reflect_in_scale.Goals as goal

pub returns : goal.returns
returns c = reflectance_encloses
