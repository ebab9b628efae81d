use Rattle.cert_laws.proofs.Searched.{result_is_first, result_is_valid, result_means}
use Rattle.cert_laws.proofs.laws.claim.Goals as goal

pub returns : goal.returns
returns c = record { valid = result_is_valid; means = result_means; first = result_is_first }
