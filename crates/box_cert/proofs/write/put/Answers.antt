use Rattle.std.proofs.Common.{[], ◌++◌}
use Rattle.box_cert.proofs.Pieces.{on_on, on_waiting, wrong_more}
use Rattle.box_cert.proofs.write.put.Goals as goal

pub returns-in_default-clause-goes : goal.returns-in_default-clause-goes
returns-in_default-clause-goes g c =
    wrong_more c.args.name.now [] c.args.piece.now c.args.waiting.now.items (g.H.Shelf.view c.args.shelf.now) (g.H.Shelf.view c.make_room.new.shelf) c.in_default.ensures.goes

pub returns-clause-goes : goal.returns-clause-goes
returns-clause-goes g c =
    let w = c.make_room.new.waiting.items in
    let piece = c.args.piece.now in
    let mid = g.H.Shelf.view c.make_room.new.shelf in
    rw c.put_bytes.ensures.text
    (on_on c.args.name.now [] piece c.args.waiting.now.items w (w ++ piece) (g.H.Shelf.view c.args.shelf.now) mid mid c.in-Ok.ensures.goes (on_waiting c.args.name.now w piece mid))
