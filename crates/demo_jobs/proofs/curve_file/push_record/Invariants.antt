use Rattle.std.proofs.Common.{◌≡◌, ◌++◌, drop, map}
use Rattle.std.specs.Prelude.{slice_index}
use Rattle.demo_jobs.specs.Lines.{after_commas, number_field}
use Rattle.demo_jobs.proofs.curve_file.push_record.Given as goal

abbrev pub invariant-loop-curve : goal.invariant-loop-curve
invariant-loop-curve l =
    l.text.items ++ after_commas (map (λ e. number_field 4 (slice_index e.1 l.index)) (drop l.curve-index l.book)) ≡ l.initial.text.items ++ after_commas (map (λ e. number_field 4 (slice_index e.1 l.index)) l.book)
