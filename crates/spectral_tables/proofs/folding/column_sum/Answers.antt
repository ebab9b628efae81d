use Rattle.std.proofs.Common.{pos, [], get_or, arith}
use Rattle.std.proofs.lemmas.Int.{ints}
use Rattle.spectral_tables.specs.WeightTable.{at_column}
use Rattle.spectral_tables.proofs.SumFacts.{within-magnitude, column_sum-drop, column_sum-end}
use Rattle.spectral_tables.proofs.folding.column_sum.Goals as goal

pub loop-triple-preserved : goal.loop-triple-preserved
loop-triple-preserved c =
    let triple = get_or c.args.triples.now c.loop-triple.triple-index [] in
    let here = c.requires.magnitudes c.loop-triple.triple-index [] c.loop-triple-test.true in
    let small = within-magnitude (at_column c.args.column triple) _ (here.1 c.args.column (pos 0) (omega (arith, here.0, c.requires.column))) in
    let step = column_sum-drop c.args.column c.args.triples.now c.loop-triple.triple-index c.loop-triple-test.true in
    record {
      so_far = omega (arith, ints, small.least, small.most, step, c.loop-triple.invariant.so_far);
      least = omega (arith, ints, small.least, small.most);
      most = omega (arith, ints, small.least, small.most);
    }

pub returns : goal.returns
returns c = omega (arith, ints, column_sum-end c.args.column c.args.triples.now c.loop-triple.triple-index c.loop-triple-test.false, c.loop-triple.invariant.so_far)
