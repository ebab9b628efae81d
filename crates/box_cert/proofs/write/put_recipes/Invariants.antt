use Rattle.std.proofs.Common.{ℕ, take, flat_map}
use Rattle.arrayvec.specs.ArrayVec.{ArrayVec}
use Rattle.box_cert.specs.LineTexts.{as_line, numbers_text}
use Rattle.box_cert.specs.Writing.{GoesOn, IsHeld}
use Rattle.box_cert.proofs.write.put_recipes.Given as goal

abbrev pub invariant-loop-steps : goal.invariant-loop-steps
invariant-loop-steps g l = record {
  goes : GoesOn l.name (flat_map (λ (s : ArrayVec ℕ). as_line (numbers_text s.items)) (take l.steps-index l.recipes))
      l.fn.waiting.items (g.H.Shelf.view l.fn.shelf) l.waiting.items (g.H.Shelf.view l.shelf);
  held : IsHeld l.name (g.H.Shelf.view l.shelf);
}
