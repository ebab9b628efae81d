-- The verdicts so far with those on the other differences are all verdicts.
use Rattle.std.proofs.Common.{◌≡◌, ◌+◌, ◌++◌, drop}
use Rattle.arrayvec.specs.ArrayVec.{array_vec_len}
use Rattle.recipe_judge.specs.Evaluation.{tolerances}
use Rattle.dye_run.specs.Show.{verdicts_from}
use Rattle.dye_run.proofs.recipes.verdicts_of.Given as goal

abbrev pub invariant-loop-i : goal.invariant-loop-i
invariant-loop-i l = record {
  so_far : l.verdicts.items ++ verdicts_from (1 + l.i) (tolerances (drop l.i l.lights)) (drop l.i l.deltas) ≡ verdicts_from 1 (tolerances l.lights) l.deltas;
  count : array_vec_len l.verdicts ≡ l.i;
}
