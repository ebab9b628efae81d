-- The verdicts on the lights of a recipe, one after the other, and that a recipe fits its job.
use Rattle.std.proofs.Common.{◌≡◌, ◌+◌, ◌<◌, ◌≤◌, ℕ, List, [], ◌∷◌, ◌++◌, length, drop, get_or, sym, ap, ◌∙◌, append_assoc, append-nil, refl, arith}
use Rattle.std.proofs.lemmas.List.{drop_all}
use Rattle.std.specs.List.{AllZip}
use Rattle.interval_specs.specs.Ends.{Ends}
use Rattle.job_keys.specs.declared.light.JobLight.{JobLight}
use Rattle.job_file.specs.Resolve.{ResolvedJob}
use Rattle.metamerism.specs.Verdicts.{light_verdict}
use Rattle.metamerism.specs.declared.outcomes.Verdict.{Verdict}
use Rattle.price_grid.specs.Grid.{IsRecipe}
use Rattle.recipe_judge.specs.Evaluation.{differences_under, spectrum_of, tolerances}
use Rattle.recipe_judge.specs.Land.{IsLand}
use Rattle.shade_report.specs.Recipes.{FitsJob}
use Rattle.spectral_tables.specs.Spectrum.{spectrum_at}
use Rattle.spectral_tables.specs.WeightTable.{WeightTable}
use Rattle.fix_bounds.specs.Scales.{base_unit}
use Rattle.dye_run.specs.Show.{recipe_values, verdicts_from}
use Rattle.dye_run.proofs.JobTables.{items_from}

module _ (lights : List JobLight) (deltas : List Ends) (k : ℕ) (before : List Verdict) {all : List Verdict} where
  -- one more
  pub verdicts_more : (light : JobLight) (delta : Ends) (more : List Verdict) → k < length lights → k < length deltas → light ≡ get_or lights k light → delta ≡ get_or deltas k delta
      → before ++ verdicts_from (1 + k) (tolerances (drop k lights)) (drop k deltas) ≡ all → more ≡ before ++ light_verdict base_unit light.tolerance (k + 1) delta ∷ []
      → more ++ verdicts_from (1 + (k + 1)) (tolerances (drop (k + 1) lights)) (drop (k + 1) deltas) ≡ all
  unfolding verdicts_from
  verdicts_more light delta more hl hd is_light is_delta so_far grown =
      let number : 1 + k ≡ k + 1 = omega arith in
      let next : (k + 1) + 1 ≡ 1 + (k + 1) = omega arith in
      let here = light_verdict base_unit light.tolerance (k + 1) delta in
      let rest : ℕ → List Verdict = λ m. verdicts_from m (tolerances (drop (k + 1) lights)) (drop (k + 1) deltas) in
      let e : verdicts_from (1 + k) (tolerances (drop k lights)) (drop k deltas) ≡ here ∷ rest ((k + 1) + 1) = λ i. verdicts_from (number i) (tolerances (items_from lights k light hl is_light i)) (items_from deltas k delta hd is_delta i) in
      ap (λ m. m ++ rest (1 + (k + 1))) grown ∙ append_assoc before (here ∷ []) (rest (1 + (k + 1))) ∙ ap (λ m. before ++ here ∷ rest m) (sym next) ∙ ap (λ m. before ++ m) (sym e) ∙ so_far

  -- none is left
  pub verdicts_end : length lights ≤ k → before ++ verdicts_from (1 + k) (tolerances (drop k lights)) (drop k deltas) ≡ all → before ≡ all
  unfolding verdicts_from
  verdicts_end h so_far =
      let e : verdicts_from (1 + k) (tolerances (drop k lights)) (drop k deltas) ≡ [] = ap (λ ls. verdicts_from (1 + k) (tolerances ls) (drop k deltas)) (drop_all k lights h) in
      sym (append-nil before) ∙ ap (λ m. before ++ m) (sym e) ∙ so_far

-- a difference for each light
pub length-differences : (n : ℕ) (standard sample : List Ends) (lights : List JobLight) (tables : List WeightTable) → length tables ≡ length lights → length (differences_under n standard lights tables sample) ≡ length lights
length-differences n standard sample [] tables h = refl
length-differences n standard sample (light ∷ lights) [] h = absurd (omega (arith, h))
length-differences n standard sample (light ∷ lights) (weights ∷ tables) h =
    let rest = length-differences n standard sample lights tables (omega (arith, h)) in omega (arith, rest)

zip_length : {A B : Type 0} (R : A → B → Type 0) (xs : List A) (ys : List B) → AllZip R xs ys → length ys ≡ length xs
zip_length R [] [] h = refl
zip_length R [] (y ∷ ys) h = absurd h
zip_length R (x ∷ xs) [] h = absurd h
zip_length R (x ∷ xs) (y ∷ ys) h = let rest = zip_length R xs ys h.1 in omega (arith, rest)

-- a recipe fits its job
pub recipe_fits : (r : ResolvedJob) (recipe : List ℕ) → IsLand r → IsRecipe r.grid recipe → FitsJob r.job (recipe_values r recipe)
recipe_fits r recipe land h = record {
  steps = zip_length (λ dye n. n ≤ dye.most) r.grid recipe h ∙ land.found.grid;
  lights = length-differences base_unit (spectrum_at base_unit r.standard) (spectrum_of base_unit r recipe recipe) r.job.light r.weights land.found.lights;
}
