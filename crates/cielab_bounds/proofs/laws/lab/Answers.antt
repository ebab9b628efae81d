use Rattle.cielab_bounds.proofs.LabLaw.{lab_encloses}
use Rattle.cielab_bounds.proofs.laws.lab.Goals as goal

pub returns : goal.returns
returns c = lab_encloses
