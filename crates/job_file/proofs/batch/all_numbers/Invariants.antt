use Rattle.std.proofs.Common.{◌≡◌, [], drop}
use Rattle.toml.specs.Data.{as_integer}
use Rattle.toml.specs.View.{items_view}
use Rattle.job_keys.specs.Arrays.{all_after}
use Rattle.job_file.proofs.batch.all_numbers.Given as goal

abbrev pub invariant-loop-value : goal.invariant-loop-value
invariant-loop-value l =
    all_after as_integer l.numbers.items (items_view (drop l.value-index l.values)) ≡ all_after as_integer [] (items_view l.values)
