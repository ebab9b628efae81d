use Rattle.recipe_judge.proofs.GridBoxes.{up_to_most_is_recipe}
use Rattle.recipe_judge.proofs.landscape.RecipeLandLandscape.key_of.Goals as goal

pub key-requires : goal.key-requires
key-requires c = rw c.grid.ensures (up_to_most_is_recipe c.args.self.now.grid c.args.steps.now.items c.requires.1)
