use Rattle.box_cert.proofs.Fed.{all_read}
use Rattle.box_cert.proofs.laws.any_cut.Goals as goal

pub returns : goal.returns
returns c = all_read
