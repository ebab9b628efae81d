use Rattle.std.proofs.Common.{◌≡◌, ◌++◌, drop, map}
use Rattle.demo_jobs.specs.Lines.{after_commas, number_field}
use Rattle.demo_jobs.specs.WeightsText.{decimals_of}
use Rattle.demo_jobs.proofs.weights_file.push_weights.Given as goal

abbrev pub invariant-loop-weight : goal.invariant-loop-weight
invariant-loop-weight l =
    l.text.items ++ after_commas (map (number_field (decimals_of l.light)) (drop l.weight-index l.weights)) ≡ l.initial.text.items ++ after_commas (map (number_field (decimals_of l.light)) l.weights)
