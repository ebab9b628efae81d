use Rattle.lab_parts.proofs.Law.{chroma_encloses}
use Rattle.lab_parts.proofs.laws.chroma.Goals as goal

pub returns : goal.returns
returns c = chroma_encloses
