use Rattle.std.proofs.Common.{◌≡◌, [], ◌∷◌, drop, map, rules, refl, ap, ◌∙◌, subst, arith}
use Rattle.std.proofs.lemmas.List.{append-nil, drop_all, map-append}
use Rattle.run_core.specs.Reading.{Reads, each_file}
use Rattle.run_core.specs.Views.{bytes_view, due_view}
use Rattle.run_core.specs.declared.stop.Stop.TheVariants as stop
use Rattle.run_core.proofs.Readings.{GoesOn, all_read, file_after, file_more, file_stops}
use Rattle.run_core.proofs.due_files.read_each.Goals as goal

pub returns-in_err-bytes-clause-stopped : goal.returns-in_err-bytes-clause-stopped
returns-in_err-bytes-clause-stopped g c =
    let so_far = map bytes_view c.loop-file.bytes_read.items in
    let before = g.H.Shelf.view c.args.shelf.now in
    let mid = g.H.Shelf.view c.loop-file.shelf in
    let now = g.H.Shelf.view c.read_one.new.shelf in
    let stopped = file_stops c.args.files.now c.loop-file.file-index _ so_far before mid now (omega arith) c.loop-file.invariant c.in_err-bytes.field-0.0 c.in_err-bytes.ensures.stopped in
    search rules

pub returns-in_err-push-clause-stopped : goal.returns-in_err-push-clause-stopped
returns-in_err-push-clause-stopped g c =
    let so_far = map bytes_view c.loop-file.bytes_read.items in
    let before = g.H.Shelf.view c.args.shelf.now in
    let mid = g.H.Shelf.view c.loop-file.shelf in
    let now = g.H.Shelf.view c.read_one.new.shelf in
    let stopped = file_after c.args.files.now c.loop-file.file-index _ so_far before mid now (omega arith) c.loop-file.invariant stop.Memory (bytes_view c.in_ok-bytes.bytes) refl c.in_ok-bytes.ensures.bytes_read in
    search rules

pub loop-file-preserved : goal.loop-file-preserved
loop-file-preserved g c =
    let so_far = map bytes_view c.loop-file.bytes_read.items in
    let before = g.H.Shelf.view c.args.shelf.now in
    let mid = g.H.Shelf.view c.loop-file.shelf in
    let now = g.H.Shelf.view c.read_one.new.shelf in
    let grown = ap (map bytes_view) c.in_ok-push.ensures.items ∙ map-append bytes_view c.loop-file.bytes_read.items (c.in_ok-bytes.bytes ∷ []) in
    file_more c.args.files.now c.loop-file.file-index _ so_far before mid now (omega arith) c.loop-file.invariant (bytes_view c.in_ok-bytes.bytes) (map bytes_view c.push.new.self.items) grown c.in_ok-bytes.ensures.bytes_read

pub returns-clause-bytes_read : goal.returns-clause-bytes_read
returns-clause-bytes_read g c =
    let files = map due_view c.args.files.now in
    let k = c.loop-file.file-index in
    let so_far = map bytes_view c.loop-file.bytes_read.items in
    let none : map due_view (drop k c.args.files.now) ≡ [] = ap (map due_view) (drop_all k c.args.files.now (omega arith)) in
    subst (λ bs. Reads (each_file files) bs (g.H.Shelf.view c.args.shelf.now) (g.H.Shelf.view c.loop-file.shelf)) (append-nil so_far)
    (all_read files so_far (g.H.Shelf.view c.args.shelf.now) (g.H.Shelf.view c.loop-file.shelf)
    (subst (λ fs. GoesOn files fs so_far (g.H.Shelf.view c.args.shelf.now) (g.H.Shelf.view c.loop-file.shelf)) none c.loop-file.invariant))
