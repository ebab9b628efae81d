use Rattle.std.proofs.Common.{◌≡◌, ◌+◌, option_map, drop}
use Rattle.shelf_io.specs.Held.{index_of}
use Rattle.shelf_io.proofs.mem_shelf.index_of.Given as goal

abbrev pub invariant-loop-at : goal.invariant-loop-at
invariant-loop-at l = option_map (λ k. l.at + k) (index_of l.name (drop l.at l.files)) ≡ index_of l.name l.files
