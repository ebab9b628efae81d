use Rattle.cert_laws.proofs.Searched.{result_fits, result_is_read, result_is_short}
use Rattle.cert_laws.proofs.laws.text.Goals as goal

pub returns : goal.returns
returns c = record { fits = result_fits; short = result_is_short; read = result_is_read }
