use Rattle.shelf_io.proofs.CreateKeeps.{created, created_contents, created_counted, created_only, created_promised}
use Rattle.shelf_io.proofs.mem_shelf.calls.MemShelfShelf.create.Goals as goal

pub returns-clause-contents : goal.returns-clause-contents
returns-clause-contents c = created_contents c.args.self.now c.make.new.self c.args.name.now c.make.result (created c.args.self.now c.make.new.self c.args.name.now c.make.ensures.after) c.make.ensures.exact

pub returns-clause-effect : goal.returns-clause-effect
returns-clause-effect c = created_only c.args.self.now c.make.new.self c.args.name.now (created c.args.self.now c.make.new.self c.args.name.now c.make.ensures.after)

pub returns-clause-counted : goal.returns-clause-counted
returns-clause-counted c = created_counted c.args.self.now c.make.new.self c.args.name.now c.make.result (created c.args.self.now c.make.new.self c.args.name.now c.make.ensures.after) c.make.ensures.exact

pub returns-clause-promised : goal.returns-clause-promised
returns-clause-promised c = created_promised c.args.self.now c.args.name.now c.make.result c.make.ensures.exact
