use Rattle.std.proofs.Common.{◌≤◌, length, slice_index_or, Some, refl, ap, sym, ◌∙◌, arith}
use Rattle.interval_specs.specs.Operations.{sum_of}
use Rattle.mix_model.specs.Mixture.{contributions_at, dosed}
use Rattle.mix_model.proofs.Doses.{IsTurn, length-dosed, portion, turn}
use Rattle.mix_model.proofs.Portions.{mixture_is, range_next, sum_end, sum_more}
use Rattle.mix_model.proofs.sums.sum_at.Given as given
use Rattle.mix_model.proofs.sums.sum_at.Goals as goal
use Rattle.mix_model.proofs.sums.sum_at.Goals.{After-index-dyes-i}

here : (g : given.Over) (c : After-index-dyes-i g)
    → IsTurn (length c.args.base.now) (dosed c.args.dyes.now c.args.doses.now) c.loop-i.i (portion c.index-dyes-i.result (slice_index_or c.args.doses.now c.loop-i.i (record { bath = 0; from = 0; upto = 0 })))
here g c =
    turn (length c.args.base.now) c.args.dyes.now c.args.doses.now c.loop-i.i c.index-dyes-i.result (slice_index_or c.args.doses.now c.loop-i.i (record { bath = 0; from = 0; upto = 0 })) (record { bath = 0; from = 0; upto = 0 })
    c.requires.adds c.loop-i-test.true c.index-dyes-i.is refl

pub addition_placed-requires-clause-wave : goal.addition_placed-requires-clause-wave
addition_placed-requires-clause-wave g c = let t = here g ((goal.at.addition_placed-requires-clause-wave g c).After-index-dyes-i) in omega (arith, t.can.waves, c.requires.wave)

pub addition_placed-requires-clause-ordered : goal.addition_placed-requires-clause-ordered
addition_placed-requires-clause-ordered g c = (here g ((goal.at.addition_placed-requires-clause-ordered g c).After-index-dyes-i)).can.ordered

pub addition_placed-requires-clause-units : goal.addition_placed-requires-clause-units
addition_placed-requires-clause-units g c = (here g ((goal.at.addition_placed-requires-clause-units g c).After-index-dyes-i)).can.units

pub loop-i-preserved : goal.loop-i-preserved
loop-i-preserved g c =
    let n = g.S.Scale.unit in
    let ps = dosed c.args.dyes.now c.args.doses.now in
    let t = here g ((goal.at.loop-i-preserved g c).After-index-dyes-i) in
    let total = sum_of c.at-sum.result (contributions_at n c.args.wave ps) in
    record {
      so_far = rw c.add-sum.ensures.is (sum_more n c.args.wave ps c.loop-i.i _ c.loop-i.sum c.addition_placed.result total t.in_list t.is c.addition_placed.ensures.is c.loop-i.invariant.so_far);
      range = rw c.add-sum.ensures.is (range_next n c.loop-i.i c.loop-i.sum c.addition_placed.result c.loop-i.invariant.range c.addition_placed.ensures.range);
    }

pub returns-clause-is : goal.returns-clause-is
returns-clause-is g c =
    let n = g.S.Scale.unit in
    let ps = dosed c.args.dyes.now c.args.doses.now in
    let all : length ps ≤ c.loop-i.i = omega (arith, length-dosed c.args.dyes.now c.args.doses.now c.requires.adds.doses_count, c.loop-i-test.false) in
    let total = sum_of c.at-sum.result (contributions_at n c.args.wave ps) in
    mixture_is n ps c.args.wave c.args.base.now c.at-sum.result c.at-sum.ensures.is ∙ ap Some (sym (sum_end n c.args.wave ps c.loop-i.i c.loop-i.sum total all c.loop-i.invariant.so_far))
