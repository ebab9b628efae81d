use Rattle.ks_curves.proofs.ContributionLaws.{addition_alone}
use Rattle.ks_curves.proofs.laws.addition_alone.Goals as goal

pub returns : goal.returns
returns c = addition_alone
