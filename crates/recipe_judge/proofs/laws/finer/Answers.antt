use Rattle.recipe_judge.proofs.Boxes.{up_to_itself}
use Rattle.recipe_judge.proofs.FinerLaw.{differences_enclose}
use Rattle.recipe_judge.proofs.laws.finer.Goals as goal

pub returns : goal.returns
returns c = differences_enclose c.args.land.now c.args.steps.now.items c.args.steps.now.items c.job.ensures.held (up_to_itself c.args.steps.now.items) c.requires
