use Rattle.shelf_io.proofs.Files.{read_there, read_nowhere}
use Rattle.shelf_io.proofs.mem_shelf.calls.MemShelfShelf.read_faults.Goals as goal

pub returns-in-Some : goal.returns-in-Some
returns-in-Some c =
    let found = read_there c.args.name.now c.self.inside.files.items c.deref.result.now c.in-Some.at c.index.result.now c.deref.ensures.value c.in-Some.ensures.index c.index.ensures in
    rw (← c.self.view_is, found) c.reads.ensures

pub returns-in-None : goal.returns-in-None
returns-in-None c =
    let found = read_nowhere c.args.name.now c.self.inside.files.items c.deref.result.now c.deref.ensures.value c.in-None.ensures.index in
    rw (← c.self.view_is, found)
