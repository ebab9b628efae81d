use Rattle.lab_parts.proofs.Law.{chroma_difference_encloses}
use Rattle.lab_parts.proofs.laws.chroma_difference.Goals as goal

pub returns : goal.returns
returns c = chroma_difference_encloses
