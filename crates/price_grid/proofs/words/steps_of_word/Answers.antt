use Rattle.std.proofs.Common.{take, ap, arith}
use Rattle.std.specs.Prelude.{option_map}
use Rattle.price_grid.proofs.GridFacts.{recipe-length}
use Rattle.price_grid.proofs.WordFacts.{ended, goes-on, over, recipe-push, taken}
use Rattle.price_grid.proofs.words.steps_of_word.Goals as goal

pub returns-in_default-clause-is : goal.returns-in_default-clause-is
returns-in_default-clause-is c =
    ended c.loop-dye.steps.items c.args.dyes.now c.loop-dye.dye-index _ _ c.loop-dye-test.true (ap (option_map (λ text. text.now)) c.in_default.is) c.loop-dye.invariant.so_far

pub push-requires : goal.push-requires
push-requires c =
    let read = recipe-length (take c.loop-dye.dye-index c.args.dyes.now) c.loop-dye.steps.items c.loop-dye.invariant.recipe in
    (omega arith, omega (arith, read, taken c.args.dyes.now c.loop-dye.dye-index, c.loop-dye-test.true, c.requires))

pub loop-dye-preserved : goal.loop-dye-preserved
loop-dye-preserved c =
    let here = c.in-Some-next_steps.ensures in
    rw c.push.ensures.items (record {
      so_far = goes-on c.loop-dye.steps.items c.in-Some-next_steps.n c.args.dyes.now c.loop-dye.dye-index _ _ c.in-Some.text.now _ c.loop-dye-test.true
          (ap (option_map (λ text. text.now)) c.in-Some.is) here.some c.loop-dye.invariant.so_far;
      recipe = recipe-push c.args.dyes.now c.loop-dye.dye-index c.loop-dye.steps.items c.in-Some-next_steps.n c.loop-dye-test.true c.loop-dye.invariant.recipe here.small;
    })

pub returns-in-Some-rest-clause-is : goal.returns-in-Some-rest-clause-is
returns-in-Some-rest-clause-is c =
    over c.loop-dye.steps.items c.args.dyes.now c.loop-dye.dye-index _ _ c.in-Some-rest.field-0.now c.loop-dye-test.false (ap (option_map (λ text. text.now)) c.in-Some-rest.is) c.loop-dye.invariant.so_far
