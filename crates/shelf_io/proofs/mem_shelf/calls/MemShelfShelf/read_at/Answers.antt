use Rattle.shelf_io.proofs.ReadKeeps.{read_counted, read_handed, read_only, read_promised}
use Rattle.shelf_io.proofs.mem_shelf.calls.MemShelfShelf.read_at.Goals as goal

pub returns-clause-effect : goal.returns-clause-effect
returns-clause-effect c = read_only _ _ c.args.name.now _ _ c.read.ensures.after

pub returns-clause-handed : goal.returns-clause-handed
returns-clause-handed c = read_handed _ _ c.args.name.now _ _ c.read.result c.read.ensures.after c.read.ensures.exact c.read.ensures.size

pub returns-clause-counted : goal.returns-clause-counted
returns-clause-counted c = read_counted _ _ c.args.name.now _ _ c.read.result c.read.ensures.after c.read.ensures.exact

pub returns-clause-promised : goal.returns-clause-promised
returns-clause-promised c = read_promised c.args.self.now c.args.name.now c.read.result c.read.ensures.exact
