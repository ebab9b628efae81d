-- The recipes of a job as a landscape: their box, costs and verdicts, and which limits exclude a
-- box of them and which lights fail on it, all at the base scale.
use Rattle.std.specs.Prelude.{◌*◌, ℕ, zero, suc, pos, ◌*ℤ◌, Bool, true, false, int_lt, Option, Some, None, List, [], ◌∷◌, length, map}
use Rattle.interval_specs.specs.Ends.{Ends}
use Rattle.box_specs.specs.declared.judged.Judged.{Judged}
use Rattle.box_specs.specs.declared.judged.Judged.TheVariants as judged
use Rattle.box_specs.specs.Landscape.{Grade, Land, fails, passes, unsure}
use Rattle.box_specs.specs.Span.{Span}
use Rattle.job_file.specs.Resolve.{ResolvedJob}
use Rattle.metamerism.specs.declared.outcomes.Verdict.{Verdict}
use Rattle.metamerism.specs.declared.outcomes.Verdict.TheVariants.{Fail, Pass, Undecided}
use Rattle.metamerism.specs.Verdicts.{verdict_at}
use Rattle.price_grid.specs.declared.dye_cost.DyeCost.{DyeCost}
use Rattle.price_grid.specs.Cost.{cost_of}
use Rattle.price_grid.specs.Limits.{is_excluded}
use Rattle.recipe_judge.specs.Evaluation.{differences_at, tolerances}
use Rattle.recipe_judge.specs.Land.{over_batch}
use Rattle.fix_bounds.specs.Scales.{base_unit}

-- the box of all recipes of a grid: from no steps of each dye to its most
abbrev pub all_recipes : List DyeCost → Span
all_recipes grid = record { lo = map (λ dye. 0) grid; hi = map (λ dye. dye.most) grid }

-- the lower end of the difference is above the tolerance
abbrev pub is_fail : ℕ → ℕ → Ends → Bool
is_fail n tolerance delta = int_lt (pos (tolerance * n)) (pos 1000 *ℤ delta.lo)

-- the light at an index fails
abbrev pub fails_at : ℕ → List ℕ → List Ends → ℕ → Bool
fails_at n [] deltas i = false
fails_at n (tolerance ∷ tolerances) [] i = false
fails_at n (tolerance ∷ tolerances) (delta ∷ deltas) zero = is_fail n tolerance delta
fails_at n (tolerance ∷ tolerances) (delta ∷ deltas) (suc i) = fails_at n tolerances deltas i

-- the light with a number fails; the first light has the number 1
abbrev pub light_fails : ℕ → List ℕ → List Ends → ℕ → Bool
light_fails n tolerances deltas zero = false
light_fails n tolerances deltas (suc i) = fails_at n tolerances deltas i

-- the verdict on a recipe as a grade of a landscape
abbrev pub grade_of : Verdict → Grade
grade_of Pass = passes
grade_of (Fail light) = fails
grade_of Undecided = unsure

-- the failing light that a verdict names
abbrev pub failing_light : Verdict → Option ℕ
failing_light Pass = None
failing_light (Fail light) = Some light
failing_light Undecided = None

-- how a box that no limit excludes is judged, from the verdict on its recipes together, and whether
-- it is a single recipe
abbrev pub judged_from : Verdict → (alone : Bool) → Judged
judged_from (Fail light) alone = judged.Fail light
judged_from Pass false = judged.StillOpen
judged_from Pass true = judged.Pass
judged_from Undecided false = judged.StillOpen
judged_from Undecided true = judged.Undecided

-- the landscape of a job
abbrev pub recipe_land : ResolvedJob → Land
recipe_land r = record {
  top = all_recipes r.grid;
  lights = length r.job.light;
  cost = λ steps. cost_of r.grid steps;
  grade = λ steps. grade_of (verdict_at base_unit (tolerances r.job.light) (differences_at base_unit r steps steps));
  excluded = λ limit b. is_excluded r.grid (over_batch r.limits r.job.batch) limit b.lo b.hi;
  failing = λ light b. light_fails base_unit (tolerances r.job.light) (differences_at base_unit r b.lo b.hi) light;
}
