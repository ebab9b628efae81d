use Rattle.std.proofs.Common.{ap, ◌∙◌}
use Rattle.shelf_io.specs.Filling.{no_files}
use Rattle.shelf_io.proofs.Filling.{fills_next}
use Rattle.shelf_io.proofs.mem_shelf.MemShelf.holding.Goals as goal

-- src/mem_shelf.rt:103:9
pub loop-name-preserved : goal.loop-name-preserved
loop-name-preserved c = record {
  fills = fills_next (λ f. (f.0.now, f.1.now)) c.args.files.now c.loop-name.name-index _ c.args.slots (no_files c.args.room) c.loop-name.shelf c.put_file.new.self (search) c.loop-name.invariant.fills c.in_ok-put_file.ensures.ok;
  room = ap (λ s. s.room) c.in_ok-put_file.ensures.ok ∙ c.loop-name.invariant.room;
}
