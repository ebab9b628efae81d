use Rattle.std.proofs.Common.{◌≤◌, length, decimal, ap, ◌∙◌, arith, lit<}
use Rattle.std.proofs.lemmas.Fmt.{length-decimal-le_wide}
use Rattle.dec_text.proofs.fixed.put_whole.Goals as goal

pub put_bytes-requires : goal.put_bytes-requires
put_bytes-requires g c = let short : length (decimal c.args.whole) ≤ 31 = length-decimal-le_wide 31 c.args.whole (lit< tt) (omega arith) (omega arith) in let e = ap length (c.as_bytes.ensures.value ∙ c.format.ensures.text) in omega arith

pub returns-clause-short : goal.returns-clause-short
returns-clause-short g c = let short : length (decimal c.args.whole) ≤ 31 = length-decimal-le_wide 31 c.args.whole (lit< tt) (omega arith) (omega arith) in let e = ap length (c.as_bytes.ensures.value ∙ c.format.ensures.text) in omega arith
