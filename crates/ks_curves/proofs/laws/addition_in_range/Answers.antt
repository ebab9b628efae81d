use Rattle.ks_curves.proofs.ContributionLaws.{addition_narrows}
use Rattle.ks_curves.proofs.laws.addition_in_range.Goals as goal

pub returns : goal.returns
returns c = addition_narrows
