use Rattle.std.proofs.Common.{◌+◌, ◌*◌, min, ◌∙◌}
use Rattle.dec_text.specs.Decimal.{largest}
use Rattle.dec_text.proofs.Magnitudes.{capped-magnitude_of}
use Rattle.dec_text.proofs.magnitude.magnitude.Goals as goal

pub returns : goal.returns
returns c = c.min.ensures ∙ (λ i. min (c.from.ensures i * c.pow-power.result) (c.from-2.ensures i)) ∙ capped-magnitude_of (largest + 1) c.args.decimals c.args.whole.now c.args.fraction.now c.min-written.result c.append_digits.result c.append_digits-digits.result c.pow-power.result c.min-written.ensures c.append_digits.ensures c.append_digits-digits.ensures c.pow-power.ensures
