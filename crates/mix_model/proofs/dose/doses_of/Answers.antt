use Rattle.std.proofs.Common.{◌≡◌, ◌*◌, ◌∙◌, slice_index_or}
use Rattle.mix_model.specs.declared.dose.Dose.{Dose}
use Rattle.mix_model.proofs.Doses.{dose, doses_more, doses_end}
use Rattle.mix_model.proofs.dose.doses_of.Goals as goal

pub loop-i-preserved : goal.loop-i-preserved
loop-i-preserved c =
    let i = c.loop-i.i in
    let pushed : Dose = record { bath = c.from.result * c.step-step.result; from = c.from-in-loop-i.result * c.step-step.result; upto = c.from-in-loop-i-2.result * c.step-step.result } in
    let is : pushed ≡ dose c.index-dyes-i.result (slice_index_or c.args.bath.now i 0) (slice_index_or c.args.lo.now i 0) (slice_index_or c.args.hi.now i 0) =
    λ j. record {
      bath = c.from.ensures j * c.step-step.ensures.is j;
      from = c.from-in-loop-i.ensures j * c.step-step.ensures.is j;
      upto = c.from-in-loop-i-2.ensures j * c.step-step.ensures.is j;
    } in
    c.push.ensures.items ∙ doses_more c.args.dyes.now c.args.bath.now c.args.lo.now c.args.hi.now i c.index-dyes-i.result pushed c.loop-i.doses.items c.requires c.loop-i-test.true c.index-dyes-i.is is c.loop-i.invariant

pub returns : goal.returns
returns c = doses_end c.args.dyes.now c.args.bath.now c.args.lo.now c.args.hi.now c.loop-i.i c.loop-i.doses.items c.requires c.loop-i-test.false c.loop-i.invariant
