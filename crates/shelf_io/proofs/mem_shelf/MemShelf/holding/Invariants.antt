use Rattle.std.proofs.Common.{◌≡◌, map, take}
use Rattle.shelf_io.specs.Filling.{no_files, put_files}
use Rattle.shelf_io.proofs.Filling.{Fills}
use Rattle.shelf_io.proofs.mem_shelf.MemShelf.holding.Given as goal

abbrev pub invariant-loop-name : goal.invariant-loop-name
invariant-loop-name l = record {
  fills : Fills l.slots (put_files (map (λ f. (f.0.now, f.1.now)) (take l.name-index l.files)) (no_files l.room)) l.shelf;
  room : l.shelf.room ≡ l.room;
}
