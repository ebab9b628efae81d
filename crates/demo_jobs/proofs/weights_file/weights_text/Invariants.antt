use Rattle.std.proofs.Common.{◌≡◌, [], ◌∷◌, codes, map}
use Rattle.std.specs.List.{range_with_len}
use Rattle.demo_jobs.specs.Lines.{table_text}
use Rattle.demo_jobs.specs.WeightsText.{wave_record}
use Rattle.demo_jobs.proofs.weights_file.weights_text.Given as goal

abbrev pub invariant-loop-index : goal.invariant-loop-index
invariant-loop-index l =
    l.text.items ≡ table_text ((codes "nm" ∷ codes "X" ∷ codes "Y" ∷ codes "Z" ∷ []) ∷ map (wave_record l.light) (range_with_len 0 l.index))
