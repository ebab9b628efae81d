-- The text so far with the lines of the rest is the text of the whole curve.
use Rattle.std.proofs.Common.{◌≡◌, ◌+◌, ◌*◌, ◌++◌, drop}
use Rattle.run_core.specs.Answers.{lines_of}
use Rattle.dye_run.specs.Ks.{ks_evaluations}
use Rattle.dye_run.proofs.commands.ks.ks_text.Given as goal

abbrev pub invariant-loop-wave : goal.invariant-loop-wave
invariant-loop-wave l = l.text.items ++ lines_of (ks_evaluations (400 + 10 * l.wave) (drop l.wave l.curve)) ≡ lines_of (ks_evaluations 400 l.curve)
