use Rattle.recipe_judge.proofs.NarrowLaw.{differences_narrow}
use Rattle.recipe_judge.proofs.laws.narrower.Goals as goal

pub returns : goal.returns
returns c = differences_narrow
