use Rattle.std.proofs.Common.{◌≡◌, ◌∙◌, sym, false, arith}
use Rattle.box_specs.specs.Span.{is_single}
use Rattle.speed.proofs.Halves.{lower_box, lower_inside, upper_box, upper_inside}
use Rattle.speed.proofs.boxes.+walk.Goals as goal

pub walk-requires : goal.walk-requires
walk-requires t c =
    let b = c.args.part.now in
    let more : is_single b ≡ false = sym c.is_single.ensures ∙ c.if-not-is_single.true in
    let less = c.decreases in
    (omega arith, (lower_box b _ c.requires.boxed more c.split-cut.ensures.left, lower_inside b _ _ c.requires.boxed more c.requires.inside c.split-cut.ensures.left))

pub walk-requires-in-StillOpen : goal.walk-requires-in-StillOpen
walk-requires-in-StillOpen t c =
    let b = c.args.part.now in
    let more : is_single b ≡ false = sym c.is_single.ensures ∙ c.if-not-is_single.true in
    let less = c.decreases in
    (omega arith, (upper_box b _ c.requires.boxed more c.split-cut.ensures.right, upper_inside b _ _ c.requires.boxed more c.requires.inside c.split-cut.ensures.right))
