use Rattle.std.proofs.Common.{None, option_map, sym, subst}
use Rattle.run_core.specs.Reading.{Reads, any_file}
use Rattle.run_core.specs.Views.{due_view}
use Rattle.run_core.proofs.Readings.{none_read}
use Rattle.run_core.proofs.due_files.read_any.Goals as goal

pub returns-in-None-clause-bytes_read : goal.returns-in-None-clause-bytes_read
returns-in-None-clause-bytes_read g c =
    let view = g.H.Shelf.view c.args.shelf.now in
    subst (λ file. Reads (any_file (option_map due_view file)) None view view) (sym c.in-None.is) (none_read None view)
