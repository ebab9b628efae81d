use Rattle.std.proofs.Common.{◌≡◌, ◌++◌, drop, map, string_bytes}
use Rattle.demo_jobs.specs.Lines.{after_commas}
use Rattle.demo_jobs.proofs.curve_file.push_header.Given as goal

abbrev pub invariant-loop-name : goal.invariant-loop-name
invariant-loop-name l =
    l.text.items ++ after_commas (map (λ e. string_bytes e.0) (drop l.name-index l.book)) ≡ l.initial.text.items ++ after_commas (map (λ e. string_bytes e.0) l.book)
