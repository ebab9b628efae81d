use Rattle.std.proofs.Common.{◌≡◌, ◌∙◌, ◌^◌, ℕ, false, refl, sym, ap}
use Rattle.metamerism.specs.Lights.{delta_under}
use Rattle.metamerism.specs.declared.outcomes.Verdict.{Verdict}
use Rattle.metamerism.specs.declared.outcomes.Verdict.TheVariants.{Fail, Pass, Undecided}
use Rattle.recipe_judge.proofs.LightVerdicts.{is_failing, verdict_not_fails}
use Rattle.recipe_judge.proofs.verdicts.light_fails.Goals as goal

pub returns-in-Fail : goal.returns-in-Fail
returns-in-Fail c =
    let light = c.args.light.now in
    sym (ap is_failing c.in-Fail.is) ∙ ap is_failing c.verdict_under.ensures.is ∙ verdict_not_fails (10 ^ 12) light.tolerance 1 (delta_under light c.args.sample.now) c.verdict_under.ensures.ordered

not_failing : (v : Verdict) → ((k : ℕ) → v ≡ Fail k → ⊥) → is_failing v ≡ false
not_failing Pass h = refl
not_failing (Fail k) h = absurd (h k refl)
not_failing Undecided h = refl

pub returns-in_default : goal.returns-in_default
returns-in_default c =
    let light = c.args.light.now in
    sym (not_failing c.verdict_under.result c.in_default.not-Fail) ∙ ap is_failing c.verdict_under.ensures.is
    ∙ verdict_not_fails (10 ^ 12) light.tolerance 1 (delta_under light c.args.sample.now) c.verdict_under.ensures.ordered
