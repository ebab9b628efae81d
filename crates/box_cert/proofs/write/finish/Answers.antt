use Rattle.std.proofs.Common.{ℕ, List, [], subst}
use Rattle.box_cert.specs.Writing.{Goes}
use Rattle.box_cert.proofs.Pieces.{on_goes}
use Rattle.box_cert.proofs.write.finish.Goals as goal

pub returns : goal.returns
returns g c =
    let name = c.args.name.now in
    let old = g.H.Shelf.view c.args.shelf.now in
    let mid = g.H.Shelf.view c.flush.new.shelf in
    let new = g.H.Shelf.view c.flush-2.new.shelf in
    let P : List ℕ → Type 0 = λ w. Goes name [] c.flush-2.result w mid [] new in
    on_goes name [] [] c.args.waiting.now.items [] [] old mid new c.flush-2.result c.in-Ok.ensures.goes
    (subst P c.in-Ok.ensures.empty c.flush-2.ensures.goes)
