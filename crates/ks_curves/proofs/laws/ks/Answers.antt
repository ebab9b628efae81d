use Rattle.ks_curves.proofs.ContributionLaws.{ks_encloses}
use Rattle.ks_curves.proofs.laws.ks.Goals as goal

pub returns : goal.returns
returns c = ks_encloses
