use Rattle.std.proofs.Common.{◌≡◌, ◌+◌, drop}
use Rattle.metamerism.specs.Lights.{tolerances_of}
use Rattle.metamerism.specs.Verdicts.{joint, verdict_at, verdict_from}
use Rattle.metamerism.proofs.judging.verdict.Given as goal

abbrev pub invariant-loop-i : goal.invariant-loop-i
invariant-loop-i g l =
    joint l.so_far (verdict_from g.S.Scale.unit (l.i + 1) (drop l.i (tolerances_of l.lights)) (drop l.i l.deltas.each.items))
    ≡ verdict_at g.S.Scale.unit (tolerances_of l.lights) l.deltas.each.items
