use Rattle.std.proofs.Common.{take}
use Rattle.box_cert.specs.LineTexts.{lines_text}
use Rattle.box_cert.specs.Writing.{GoesOn, IsHeld}
use Rattle.box_cert.proofs.write.put_lines.Given as goal

abbrev pub invariant-loop-line : goal.invariant-loop-line
invariant-loop-line g l = record {
  goes : GoesOn l.name (lines_text (take l.line-index l.lines))
      l.fn.waiting.items (g.H.Shelf.view l.fn.shelf) l.waiting.items (g.H.Shelf.view l.shelf);
  held : IsHeld l.name (g.H.Shelf.view l.shelf);
}
