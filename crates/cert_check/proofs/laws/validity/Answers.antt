use Rattle.cert_check.proofs.Exact.{fails_unless_valid}
use Rattle.cert_check.proofs.Plain.{grid_is_listed}
use Rattle.cert_check.proofs.Sound.{means_for, valid_means}
use Rattle.cert_check.proofs.laws.validity.Goals as goal

pub returns-clause-means : goal.returns-clause-means
returns-clause-means c = λ l claim listed lines lawful valid. valid_means l claim listed lines lawful valid

pub returns-clause-lists : goal.returns-clause-lists
returns-clause-lists c = λ l cutoff matched listed lines lawful valid. means_for l lawful cutoff matched listed lines valid

pub returns-clause-fails : goal.returns-clause-fails
returns-clause-fails c = λ l. fails_unless_valid l

pub returns-clause-plain : goal.returns-clause-plain
returns-clause-plain c = λ l. grid_is_listed l
