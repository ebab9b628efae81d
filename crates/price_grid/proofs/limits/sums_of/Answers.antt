use Rattle.std.proofs.Common.{subst, arith}
use Rattle.price_grid.specs.Grid.{IsGrid}
use Rattle.price_grid.proofs.GridFacts.{recipe-length, recipe-small, with_bath-length}
use Rattle.price_grid.proofs.limits.sums_of.Goals as goal

pub with_bath-requires : goal.with_bath-requires
with_bath-requires c =
    let grid = subst IsGrid c.grid.view_is c.grid.invariant in
    let bath = recipe-length c.args.grid.now c.args.limits.now.bath.items c.requires.fit.bath in
    let steps = recipe-length c.args.grid.now c.args.steps.now.items c.requires.recipe in
    rw (c.as_slice.ensures.value, c.as_slice-2.ensures.value) (record {
      lengths = omega (arith, bath, steps);
      few = omega (arith, bath, grid.few);
      bath = recipe-small c.args.grid.now c.args.limits.now.bath.items grid c.requires.fit.bath;
      steps = recipe-small c.args.grid.now c.args.steps.now.items grid c.requires.recipe;
    })

pub returns-clause-count : goal.returns-clause-count
returns-clause-count c =
    let bath = recipe-length c.args.grid.now c.args.limits.now.bath.items c.requires.fit.bath in
    let steps = recipe-length c.args.grid.now c.args.steps.now.items c.requires.recipe in
    let sums = with_bath-length c.args.limits.now.bath.items c.args.steps.now.items (omega (arith, bath, steps)) in
    rw (c.with_bath.ensures, c.as_slice.ensures.value, c.as_slice-2.ensures.value) (omega (arith, bath, sums))
