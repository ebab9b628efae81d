use Rattle.recipe_judge.proofs.FinerLaw.{differences_enclose}
use Rattle.recipe_judge.proofs.laws.boxes.Goals as goal

pub returns : goal.returns
returns c = differences_enclose
