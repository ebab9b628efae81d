use Rattle.std.proofs.Common.{option_map}
use Rattle.job_file.specs.JobView.{job_view}
use Rattle.run_core.specs.Asking.{◌>>=◌}
use Rattle.dye_run.specs.Jobs.{read_from, reads_accepted, reads_gathered}
use Rattle.run_core.specs.Reading.{makes}
use Rattle.run_core.specs.Views.{due_view}
use Rattle.dye_run.specs.Views.{gathered_view, job_read_view}
use Rattle.run_core.proofs.Readings.{owned_made, reads_first, step_made, step_unmade}
use Rattle.dye_run.proofs.jobs.read_accepted.Goals as goal

pub returns-in-Err-clause-made : goal.returns-in-Err-clause-made
returns-in-Err-clause-made g c =
    let j = job_view c.args.job in
    let other = option_map due_view c.args.other in
    let reading = reads_gathered j other in
    let before = g.H.Shelf.view c.args.shelf.now in
    let after = g.H.Shelf.view c.read_gathered.new.shelf in
    owned_made (reads_accepted c.args.name.now j other) before after job_read_view job_read_view c.in-Err.stop c.owned.result c.owned.ensures
    (step_unmade reading (read_from c.args.name.now j) before after gathered_view job_read_view c.in-Err.stop c.in-Err.ensures.made)

pub returns-in-Err-clause-reads : goal.returns-in-Err-clause-reads
returns-in-Err-clause-reads g c =
    let j = job_view c.args.job in
    let other = option_map due_view c.args.other in
    let reading = reads_gathered j other in
    let before = g.H.Shelf.view c.args.shelf.now in
    let after = g.H.Shelf.view c.read_gathered.new.shelf in
    reads_first reading (λ made. makes (made >>= read_from c.args.name.now j)) before after c.in-Err.ensures.reads

pub returns-clause-made : goal.returns-clause-made
returns-clause-made g c =
    let j = job_view c.args.job in
    let other = option_map due_view c.args.other in
    let reading = reads_gathered j other in
    let before = g.H.Shelf.view c.args.shelf.now in
    let after = g.H.Shelf.view c.read_gathered.new.shelf in
    step_made reading (read_from c.args.name.now j) before after job_read_view (gathered_view c.in-Ok.gathered) c.read_from.result c.in-Ok.ensures.made c.read_from.ensures

pub returns-clause-reads : goal.returns-clause-reads
returns-clause-reads g c =
    let j = job_view c.args.job in
    let other = option_map due_view c.args.other in
    let reading = reads_gathered j other in
    let before = g.H.Shelf.view c.args.shelf.now in
    let after = g.H.Shelf.view c.read_gathered.new.shelf in
    reads_first reading (λ made. makes (made >>= read_from c.args.name.now j)) before after c.in-Ok.ensures.reads
