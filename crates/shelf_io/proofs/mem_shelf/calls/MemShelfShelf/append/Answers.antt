use Rattle.shelf_io.proofs.AppendKeeps.{append_contents, append_counted, append_kept, append_only, append_promised}
use Rattle.shelf_io.specs.MemShelf.{shelf_contents}
use Rattle.std.proofs.Common.{refl}
use Rattle.shelf_io.proofs.mem_shelf.calls.MemShelfShelf.append.Goals as goal

pub add-requires : goal.add-requires
add-requires c = c.requires (shelf_contents c.args.self.now) refl

pub returns-clause-contents : goal.returns-clause-contents
returns-clause-contents c = append_contents c.args.self.now c.add.new.self c.args.name.now c.args.piece.now c.add.result c.add.ensures.after c.add.ensures.exact

pub returns-clause-effect : goal.returns-clause-effect
returns-clause-effect c = append_only c.args.self.now c.add.new.self c.args.name.now c.args.piece.now c.add.ensures.after

pub returns-clause-counted : goal.returns-clause-counted
returns-clause-counted c = append_counted c.args.self.now c.add.new.self c.args.name.now c.args.piece.now c.add.result c.add.ensures.after (c.requires (shelf_contents c.args.self.now) refl) c.add.ensures.exact

pub returns-clause-promised : goal.returns-clause-promised
returns-clause-promised c = append_promised c.args.self.now c.args.name.now c.args.piece.now c.add.result c.add.ensures.exact

pub returns-clause-kept : goal.returns-clause-kept
returns-clause-kept c = append_kept c.args.self.now c.add.new.self c.args.name.now c.args.piece.now c.add.ensures.after
