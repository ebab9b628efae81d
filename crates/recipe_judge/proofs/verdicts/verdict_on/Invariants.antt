use Rattle.std.proofs.Common.{◌≡◌, ◌+◌, ◌^◌, false, drop}
use Rattle.metamerism.specs.Lights.{deltas_under, tolerances_of}
use Rattle.metamerism.specs.Verdicts.{joint, verdict_at, verdict_from}
use Rattle.recipe_judge.proofs.LightVerdicts.{is_failing}
use Rattle.recipe_judge.proofs.verdicts.verdict_on.Given as goal

abbrev pub invariant-loop-i : goal.invariant-loop-i
invariant-loop-i l = record {
  none_fails : is_failing l.so_far ≡ false;
  rest : joint l.so_far (verdict_from (10 ^ 12) (l.i + 1) (drop l.i (tolerances_of l.lights)) (drop l.i (deltas_under l.lights l.sample)))
      ≡ verdict_at (10 ^ 12) (tolerances_of l.lights) (deltas_under l.lights l.sample);
}
