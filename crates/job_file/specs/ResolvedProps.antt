-- What holds of every resolved job is a proposition: it has at most one proof.
use Rattle.std.specs.Prelude.{◌≡◌, ◌≤◌, ℕ, List, [], ◌∷◌}
use Rattle.std.specs.List.{AllZip}
use Rattle.std.specs.Coded.{×_prop, Unit-prop, le_prop}
use Rattle.std.proofs.Props.{props}
use Rattle.ks_curves.specs.Dye.{DyeData}
use Rattle.price_grid.specs.declared.dye_cost.DyeCost.{DyeCost}
use Rattle.price_grid.specs.Grid.{IsRecipe}
use Rattle.job_file.specs.Resolve.{ResolvedJob}
use Rattle.job_file.specs.ResolvedKept.{IsResolved}

all_zip_prop : {A B : Type 0} (R : A → B → Type 0) → ((a : A) (b : B) → IsProp (R a b)) → (xs : List A) (ys : List B) → IsProp (AllZip R xs ys)
all_zip_prop R each [] [] = Unit-prop
all_zip_prop R each [] (y ∷ ys) = λ a b. absurd a
all_zip_prop R each (x ∷ xs) [] = λ a b. absurd a
all_zip_prop R each (x ∷ xs) (y ∷ ys) = ×_prop (each x y) (all_zip_prop R each xs ys)

pub steps_prop : (dyes : List DyeData) (grid : List DyeCost) → IsProp (AllZip (λ dye cost. dye.step ≡ cost.step) dyes grid)
steps_prop dyes grid = all_zip_prop (λ dye cost. dye.step ≡ cost.step) (λ dye cost. hlevel props) dyes grid

pub recipe_prop : (grid : List DyeCost) (steps : List ℕ) → IsProp (IsRecipe grid steps)
recipe_prop grid steps = all_zip_prop (λ dye n. n ≤ dye.most) (λ dye n. le_prop) grid steps

pub IsResolved-prop : (r : ResolvedJob) → IsProp (IsResolved r)
IsResolved-prop r = hlevel (props, steps_prop, recipe_prop)
