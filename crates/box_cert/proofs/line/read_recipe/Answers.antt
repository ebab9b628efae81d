use Rattle.box_cert.proofs.OneLine.{recipe_found, recipe_none}
use Rattle.box_cert.proofs.line.read_recipe.Goals as goal

pub returns-clause-found : goal.returns-clause-found
returns-clause-found c = recipe_found c.args.dims c.args.line.now c.recipe_line.result c.recipe_line.ensures.is

pub returns-clause-none : goal.returns-clause-none
returns-clause-none c = recipe_none c.args.dims c.args.line.now c.recipe_line.result c.requires.some c.recipe_line.ensures.is
