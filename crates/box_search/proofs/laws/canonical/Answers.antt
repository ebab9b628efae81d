use Rattle.box_search.proofs.Valid.{canonical_is_valid}
use Rattle.box_search.proofs.laws.canonical.Goals as goal

pub returns : goal.returns
returns c = λ l. canonical_is_valid l
