use Rattle.std.proofs.Common.{◌+◌, ◌∙◌, arith}
use Rattle.dec_text.specs.Decimal.{largest}
use Rattle.dec_text.proofs.Magnitudes.{capped_step}
use Rattle.dec_text.proofs.magnitude.append_digits.Goals as goal

pub loop-digit-preserved : goal.loop-digit-preserved
loop-digit-preserved c = record {
  small = omega arith;
  same = capped_step (largest + 1) c.loop-digit.number c.min-number.result c.loop-digit.digit-index c.args.part.now c.loop-digit-test.true (omega arith) ∙ c.loop-digit.invariant.same;
}
