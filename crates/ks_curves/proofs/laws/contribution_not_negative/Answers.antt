use Rattle.ks_curves.proofs.ContributionLaws.{value_not_negative, contribution_not_negative}
use Rattle.ks_curves.proofs.laws.contribution_not_negative.Goals as goal

pub returns-clause-units : goal.returns-clause-units
returns-clause-units c = value_not_negative

pub returns-clause-steps : goal.returns-clause-steps
returns-clause-steps c = contribution_not_negative
