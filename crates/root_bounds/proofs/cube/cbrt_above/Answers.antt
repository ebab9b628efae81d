use Rattle.root_bounds.proofs.Cubes.{cube_least}
use Rattle.root_bounds.proofs.cube.cbrt_above.Goals as goal

pub returns-then-root-x-clause-least : goal.returns-then-root-x-clause-least
returns-then-root-x-clause-least c = cube_least c.args.root c.args.x c.if-root-x.true
