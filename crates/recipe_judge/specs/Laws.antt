-- The law of the differences of recipes.
use Rattle.std.specs.Prelude.{◌*◌, ◌<◌, ℕ, List}
use Rattle.std.specs.List.{AllZip}
use Rattle.interval_specs.specs.Encloses.{Encloses}
use Rattle.job_file.specs.Resolve.{ResolvedJob}
use Rattle.price_grid.specs.Grid.{IsRecipe, IsUpTo}
use Rattle.recipe_judge.specs.Evaluation.{differences_at}
use Rattle.recipe_judge.specs.Land.{IsLand}
use Rattle.fix_bounds.specs.Scales.{base_unit}

-- the differences of the recipes from low to high steps enclose those at every finer scale
abbrev pub EnclosesFinerOf : ResolvedJob → (low high : List ℕ) → Type 0
EnclosesFinerOf r low high = (m : ℕ) → 0 < m → AllZip (Encloses m) (differences_at base_unit r low high) (differences_at (m * base_unit) r low high)

-- this holds for every job and for every box of its recipes
abbrev pub DifferencesEnclose : Type 0
DifferencesEnclose = (r : ResolvedJob) (low high : List ℕ) → IsLand r → IsUpTo low high → IsRecipe r.grid high → EnclosesFinerOf r low high

-- at the base scale and at every finer one, the differences of the recipes of a box enclose those
-- of every box within it, and so those of each of its recipes
abbrev pub DifferencesNarrow : Type 0
DifferencesNarrow =
    (r : ResolvedJob) (m : ℕ) (low high low' high' : List ℕ) → 0 < m → IsLand r → IsRecipe r.grid high → IsUpTo low low' → IsUpTo low' high' → IsUpTo high' high
    → AllZip (Encloses 1) (differences_at (m * base_unit) r low high) (differences_at (m * base_unit) r low' high')
