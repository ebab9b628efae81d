use Rattle.std.proofs.Common.{ap, sym, ◌∙◌, ◌++◌, pos, unsigned_abs}
use Rattle.std.specs.Int.{w128}
use Rattle.std.proofs.lemmas.Int.{to_z-of_z}
use Rattle.std.specs.Int.Signed.{lt_z}
use Rattle.dec_text.specs.FixedPoint.{unsigned_text}
use Rattle.dec_text.proofs.Texts.{text_below, text_above}
use Rattle.dec_text.proofs.fixed.put_signed.Goals as goal
use Rattle.dec_text.proofs.fixed.put_signed.Goals.{then-value-lt0, else-value-lt0}

pub returns-clause-text : goal.returns-clause-text
returns-clause-text g c =
    let read = to_z-of_z w128 c.args.value c.ranges.value in
    let magnitude = c.unsigned_abs.ensures.value ∙ ap unsigned_abs read in
    elim c.if-value-lt0.branch [
      | then-value-lt0 w ↦ text_below c.args.decimals c.unsigned_abs.result c.args.value c.put_unsigned.new.into.items w.push.new.self.items c.args.into.now.items (ap (λ z. lt_z z (pos 0)) (sym read) ∙ w.if-value-lt0.true) magnitude (c.put_unsigned.ensures.text ∙ ap (λ a. a.items ++ unsigned_text c.args.decimals c.unsigned_abs.result) w.into-is) w.push.ensures.items
      | else-value-lt0 w ↦ text_above c.args.decimals c.unsigned_abs.result c.args.value c.put_unsigned.new.into.items c.args.into.now.items (ap (λ z. lt_z z (pos 0)) (sym read) ∙ w.if-value-lt0.false) magnitude (c.put_unsigned.ensures.text ∙ ap (λ a. a.items ++ unsigned_text c.args.decimals c.unsigned_abs.result) w.into-is)
    ]
