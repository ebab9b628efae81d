use Rattle.ks_curves.proofs.ContributionLaws.{value_encloses, contribution_encloses}
use Rattle.ks_curves.proofs.laws.contribution_in_scale.Goals as goal

pub returns-clause-units : goal.returns-clause-units
returns-clause-units c = value_encloses

pub returns-clause-steps : goal.returns-clause-steps
returns-clause-steps c = contribution_encloses
