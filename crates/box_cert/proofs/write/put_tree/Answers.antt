use Rattle.std.proofs.Common.{ℕ, List, [], subst}
use Rattle.std.proofs.lemmas.List.{append-nil}
use Rattle.box_cert.specs.LineTexts.{lines_text}
use Rattle.box_cert.specs.Writing.{Goes}
use Rattle.box_cert.proofs.Pieces.{on_goes}
use Rattle.box_cert.proofs.write.put_tree.Goals as goal

pub returns : goal.returns
returns g c =
    let old = g.H.Shelf.view c.args.shelf.now in
    let mid = g.H.Shelf.view c.put_lines.new.shelf in
    let new = g.H.Shelf.view c.finish.new.shelf in
    let P : List ℕ → Type 0 = λ t. Goes c.args.name.now t c.finish.result c.args.waiting.now.items old [] new in
    subst P (append-nil (lines_text c.args.lines.now))
    (on_goes c.args.name.now (lines_text c.args.lines.now) [] c.args.waiting.now.items c.put_lines.new.waiting.items [] old mid new c.finish.result c.in-Ok.ensures.goes c.finish.ensures)
