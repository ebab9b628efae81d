use Rattle.std.proofs.Common.{◌≡◌, All, length, map}
use Rattle.std.specs.List.{range_with_len}
use Rattle.demo_jobs.specs.Dyes.{IsDrawn, drawn_dye}
use Rattle.demo_jobs.proofs.dyes.drawn_dyes.Given as goal

abbrev pub invariant-loop-index : goal.invariant-loop-index
invariant-loop-index l = record {
  so_far : l.dyes.items ≡ map (drawn_dye l.draws) (range_with_len 0 l.index);
  range : All IsDrawn l.dyes.items;
  count : length l.dyes.items ≡ l.index;
}
