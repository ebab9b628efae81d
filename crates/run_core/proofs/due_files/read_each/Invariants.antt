-- What is read of the other files is read of all.
use Rattle.std.proofs.Common.{drop, map}
use Rattle.run_core.specs.Views.{bytes_view, due_view}
use Rattle.run_core.proofs.Readings.{GoesOn}
use Rattle.run_core.proofs.due_files.read_each.Given as goal

abbrev pub invariant-loop-file : goal.invariant-loop-file
invariant-loop-file g l = GoesOn (map due_view l.files) (map due_view (drop l.file-index l.files)) (map bytes_view l.bytes_read.items) (g.H.Shelf.view l.fn.shelf) (g.H.Shelf.view l.shelf)
