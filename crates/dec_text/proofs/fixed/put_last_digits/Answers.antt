use Rattle.std.proofs.Common.{◌^◌, ap, ◌∙◌, arith, lit<}
use Rattle.std.proofs.Math.Nat.{one-le-pow}
use Rattle.dec_text.proofs.Texts.{digits_put, digits_done}
use Rattle.dec_text.proofs.fixed.put_last_digits.Goals as goal

pub nonzero_div-number : goal.nonzero_div-number
nonzero_div-number g c = rw c.pow.ensures (one-le-pow c.from.result 10 (lit< tt))

pub loop-left-preserved : goal.loop-left-preserved
loop-left-preserved g c = record {
  len = omega arith;
  text = digits_put c.loop-left.left c.args.count c.args.number c.pow.result c.args.into.now.items c.loop-left.into.items c.push.new.self.items c.loop-left-test.true (c.pow.ensures ∙ ap (λ k. 10 ^ k) c.from.ensures) c.push.ensures.items c.loop-left.invariant.text;
}

pub returns-clause-text : goal.returns-clause-text
returns-clause-text g c = digits_done c.loop-left.left c.args.count c.args.number c.args.into.now.items c.loop-left.into.items c.loop-left-test.false c.loop-left.invariant.text
