use Rattle.ks_curves.proofs.ContributionLaws.{value_narrows, contribution_narrows}
use Rattle.ks_curves.proofs.laws.contribution_in_range.Goals as goal

pub returns-clause-units : goal.returns-clause-units
returns-clause-units c = value_narrows

pub returns-clause-steps : goal.returns-clause-steps
returns-clause-steps c = contribution_narrows
