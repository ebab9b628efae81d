use Rattle.lab_parts.proofs.Law.{hue_difference_encloses}
use Rattle.lab_parts.proofs.laws.hue_difference_square.Goals as goal

pub returns : goal.returns
returns c = hue_difference_encloses
