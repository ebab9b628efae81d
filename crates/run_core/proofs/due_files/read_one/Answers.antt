use Rattle.run_core.specs.Views.{due_view}
use Rattle.run_core.proofs.Readings.{one_breaks, one_read}
use Rattle.run_core.proofs.due_files.read_one.Goals as goal

pub returns-clause-bytes_read : goal.returns-clause-bytes_read
returns-clause-bytes_read g c = one_read (due_view c.args.file.now) (g.H.Shelf.view c.args.shelf.now) (g.H.Shelf.view c.due.new.shelf) c.due.ensures.effect c.due.ensures.handed c.due.result c.due.ensures.from_files

pub returns-clause-stopped : goal.returns-clause-stopped
returns-clause-stopped g c = one_breaks (due_view c.args.file.now) (g.H.Shelf.view c.args.shelf.now) (g.H.Shelf.view c.due.new.shelf) c.due.ensures.effect c.due.ensures.handed c.due.result c.due.ensures.stopped
