use Rattle.std.proofs.Common.{◌<◌, length, arith}
use Rattle.price_grid.specs.Cost.{dye_cost}
use Rattle.price_grid.proofs.GridFacts.{no_dye, recipe-at, recipe-length}
use Rattle.price_grid.proofs.SumFacts.{zip_sum-drop}
use Rattle.price_grid.proofs.pricing.cost_of_steps.Goals as goal

pub bounds-steps-i : goal.bounds-steps-i
bounds-steps-i c = omega (arith, recipe-length c.args.dyes.now c.args.steps.now c.requires.recipe)

pub cost_of_dye-total-requires-clause-steps : goal.cost_of_dye-total-requires-clause-steps
cost_of_dye-total-requires-clause-steps c = recipe-at c.args.dyes.now c.args.steps.now c.loop-i.i no_dye c.requires.recipe c.loop-i-test.true

pub loop-i-preserved : goal.loop-i-preserved
loop-i-preserved c =
    let within : c.loop-i.i < length c.args.steps.now = omega (arith, recipe-length c.args.dyes.now c.args.steps.now c.requires.recipe) in
    let step = zip_sum-drop dye_cost c.args.dyes.now c.args.steps.now c.loop-i.i no_dye 0 c.loop-i-test.true within in
    record {
      so_far = omega (arith, step, c.cost_of_dye-total.ensures.is, c.loop-i.invariant.so_far);
      small = omega (arith, c.cost_of_dye-total.ensures.small, c.loop-i.invariant.small);
    }
