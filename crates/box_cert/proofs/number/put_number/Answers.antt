use Rattle.std.proofs.Common.{◌≤◌, length, decimal, ap, ◌∙◌, arith, lit<}
use Rattle.std.proofs.lemmas.Fmt.{length-decimal-le}
use Rattle.box_cert.proofs.number.put_number.Goals as goal

pub put_bytes-requires : goal.put_bytes-requires
put_bytes-requires g c =
    let short : length (decimal c.args.number) ≤ 16 = length-decimal-le 16 c.args.number (lit< tt) (omega arith) (omega arith) in
    let e = ap length (c.as_bytes.ensures.value ∙ c.format.ensures.text) in omega arith

pub returns-clause-short : goal.returns-clause-short
returns-clause-short g c =
    let short : length (decimal c.args.number) ≤ 16 = length-decimal-le 16 c.args.number (lit< tt) (omega arith) (omega arith) in
    let e = ap length (c.as_bytes.ensures.value ∙ c.format.ensures.text) in omega arith
