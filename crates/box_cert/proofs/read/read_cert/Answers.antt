use Rattle.std.proofs.Common.{[]}
use Rattle.box_cert.proofs.Fed.{fresh_read, piece_read, read_ends}
use Rattle.box_cert.proofs.WholeText.{text_found, text_only}
use Rattle.box_cert.proofs.read.read_cert.Goals as goal

pub returns-clause-exact : goal.returns-clause-exact
returns-clause-exact c =
    let dims = c.args.dims in
    let bytes = c.args.bytes.now in
    let read = piece_read dims [] bytes c.in-Ok.feed c.feed-told.new.self (fresh_read dims c.in-Ok.feed c.in-Ok.ensures) c.feed-told.ensures.feeds in
    read_ends dims bytes c.feed-told.new.self c.finish.result read c.finish.ensures.exact c.finish.ensures.stays

pub returns-clause-found : goal.returns-clause-found
returns-clause-found c = text_found c.args.dims c.args.bytes.now c.finish.result (returns-clause-exact c)

pub returns-clause-unique : goal.returns-clause-unique
returns-clause-unique c = λ cert fits e. text_only c.args.dims c.args.bytes.now c.finish.result cert c.requires.some (returns-clause-exact c) fits e
