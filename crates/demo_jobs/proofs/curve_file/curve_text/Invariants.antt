use Rattle.std.proofs.Common.{◌≡◌, ◌∷◌, codes, map}
use Rattle.std.specs.List.{range_with_len}
use Rattle.std.specs.Map.{keys_of}
use Rattle.demo_jobs.specs.CurveText.{book_of, curve_record}
use Rattle.demo_jobs.specs.Lines.{table_text}
use Rattle.demo_jobs.proofs.curve_file.curve_text.Given as goal

abbrev pub invariant-loop-index : goal.invariant-loop-index
invariant-loop-index l =
    l.text.items ≡ table_text ((codes "nm" ∷ keys_of (book_of l.book)) ∷ map (curve_record (book_of l.book)) (range_with_len 0 l.index))
