use Rattle.cielab_bounds.proofs.FLaw.{f_encloses}
use Rattle.cielab_bounds.proofs.laws.f_iv.Goals as goal

pub returns : goal.returns
returns c = f_encloses
