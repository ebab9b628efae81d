use Rattle.lab_parts.proofs.Law.{length_encloses}
use Rattle.lab_parts.proofs.laws.length.Goals as goal

pub returns : goal.returns
returns c = length_encloses
