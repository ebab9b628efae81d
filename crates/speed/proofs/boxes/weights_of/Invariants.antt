use Rattle.std.proofs.Common.{◌≡◌, All, length}
use Rattle.speed.proofs.boxes.weights_of.Given as goal

abbrev pub invariant-loop-light : goal.invariant-loop-light
invariant-loop-light g l = record {
  count : length l.list.items ≡ l.light-index;
  waves : All (λ t. length t.weights ≡ l.waves) l.list.items;
}
