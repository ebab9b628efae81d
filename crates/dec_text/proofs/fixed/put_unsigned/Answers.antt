use Rattle.std.proofs.Common.{◌^◌, ap, ◌∙◌, lit<}
use Rattle.std.proofs.Math.Nat.{one-le-pow}
use Rattle.dec_text.proofs.Texts.{text_with_decimals, text_without}
use Rattle.dec_text.proofs.fixed.put_unsigned.Goals as goal

pub nonzero_div-magnitude : goal.nonzero_div-magnitude
nonzero_div-magnitude g c = rw c.pow.ensures (one-le-pow c.from.result 10 (lit< tt))

pub returns-then-decimals-gt0-clause-text : goal.returns-then-decimals-gt0-clause-text
returns-then-decimals-gt0-clause-text g c = text_with_decimals c.args.decimals c.args.magnitude c.pow.result c.args.into.now.items c.put_whole.new.into.items c.push.new.self.items c.put_last_digits.new.into.items c.if-decimals-gt0.true (c.pow.ensures ∙ ap (λ k. 10 ^ k) c.from.ensures) c.put_whole.ensures.text c.push.ensures.items c.put_last_digits.ensures.text

pub returns-else-decimals-gt0-clause-text : goal.returns-else-decimals-gt0-clause-text
returns-else-decimals-gt0-clause-text g c = text_without c.args.decimals c.args.magnitude c.pow.result c.args.into.now.items c.put_whole.new.into.items c.if-decimals-gt0.false (c.pow.ensures ∙ ap (λ k. 10 ^ k) c.from.ensures) c.put_whole.ensures.text
