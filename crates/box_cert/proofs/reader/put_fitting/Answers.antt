use Rattle.std.proofs.Common.{◌-◌, ◌++◌, ◌∙◌, length, min, take, ap, arith}
use Rattle.box_cert.proofs.Ongoing.{fitting}
use Rattle.box_cert.proofs.reader.put_fitting.Goals as goal

pub returns : goal.returns
returns c =
    let a = c.args.into.now.items in
    let b = c.args.bytes.now in
    c.put_bytes.ensures.text
    ∙ ap (λ n. a ++ take n b) (c.min-size.ensures ∙ ap (λ n. min (80 - n) (length b)) c.len-room.ensures.value)
    ∙ fitting a b (omega (arith, c.len-room.ensures.fits, c.len-room.ensures.value))
