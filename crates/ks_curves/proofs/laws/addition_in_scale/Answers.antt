use Rattle.ks_curves.proofs.ContributionLaws.{addition_encloses}
use Rattle.ks_curves.proofs.laws.addition_in_scale.Goals as goal

pub returns : goal.returns
returns c = addition_encloses
