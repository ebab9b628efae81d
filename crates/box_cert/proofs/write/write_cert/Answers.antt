use Rattle.box_cert.specs.Spelling.{cert_text, content}
use Rattle.box_cert.proofs.Wholes.{written}
use Rattle.box_cert.proofs.write.write_cert.Goals as goal

pub returns : goal.returns
returns g c =
    let made = c.in-Ok.ensures in
    written c.put_cert.result c.args.name.now (cert_text (content c.args.cert.now)) (g.H.Shelf.view c.args.shelf.now) (g.H.Shelf.view c.create.new.self) (g.H.Shelf.view c.put_cert.new.shelf)
    made.contents made.effect made.counted c.put_cert.ensures
