-- What a search found among the recipes of a job, and what is shown of it.
use Rattle.std.proofs.Common.{◌≡◌, ◌+◌, ◌<◌, ℕ, List, [], ◌∷◌, ◌++◌, length, take, get_or, map, Option, Some, None, All, IfSome, Result, Ok, Err, IfOk, Bor, option_map, refl, sym, ap, ◌∙◌, add-one, subst}
use Rattle.std.proofs.Math.Seq.{take-suc}
use Rattle.std.proofs.lemmas.List.{get_or-map, length-map, map-append}
use Rattle.std.specs.Option.{option_copied}
use Rattle.arrayvec.specs.ArrayVec.{ArrayVec}
use Rattle.box_specs.specs.Landscape.{IsLawful}
use Rattle.box_specs.specs.Meaning.{Means}
use Rattle.box_specs.specs.Span.{IsWithin}
use Rattle.box_specs.specs.Validity.{IsValid}
use Rattle.box_specs.specs.declared.certificate.CertLine.{CertLine}
use Rattle.box_specs.specs.declared.certificate.Claim.{Claim}
use Rattle.box_specs.specs.declared.certificate.Claim.TheVariants.{Floor, Match, NoMatch}
use Rattle.box_search.specs.Result.{SearchResult}
use Rattle.box_search.specs.declared.outcome.Outcome.{Outcome}
use Rattle.cert_check.proofs.Sound.{valid_means}
use Rattle.job_file.specs.Resolve.{ResolvedJob}
use Rattle.price_grid.specs.Grid.{IsRecipe}
use Rattle.price_grid.specs.declared.dye_cost.DyeCost.{DyeCost}
use Rattle.recipe_judge.proofs.GridBoxes.{up_to_most_is_recipe}
use Rattle.recipe_judge.specs.Land.{IsLand}
use Rattle.recipe_judge.specs.Recipes.{recipe_land}
use Rattle.shade_report.specs.Outcomes.{outcome_text}
use Rattle.shade_report.specs.Recipes.{FitsJob, RecipeValues, shown_view}
use Rattle.shade_report.specs.declared.shown.Shown.{Shown}
use Rattle.dye_run.specs.Search.{claimed_recipe, matched_values}
use Rattle.dye_run.specs.Show.{recipe_values}
use Rattle.dye_run.proofs.ShowFacts.{recipe_fits}

-- a recipe of the landscape of a job is one of its grid
in_grid : (r : ResolvedJob) (steps : List ℕ) → IsWithin steps (recipe_land r).top → IsRecipe r.grid steps
in_grid r steps w = up_to_most_is_recipe r.grid steps w.1

claim_in_grid : (r : ResolvedJob) (listed : List (List ℕ)) (claim : Claim) → Means (recipe_land r) listed claim → IfSome (claimed_recipe claim) (IsRecipe r.grid)
claim_in_grid r listed (Match recipe) m = in_grid r recipe.items m.claimed.1
claim_in_grid r listed NoMatch m = tt
claim_in_grid r listed (Floor cost) m = tt

module _ (r : ResolvedJob) (lawful : IsLawful (recipe_land r)) (claim : Claim) (listed : List (List ℕ)) (lines : List CertLine) (valid : IsValid (recipe_land r) claim listed lines) where
  meaning : Means (recipe_land r) listed claim
  meaning = valid_means (recipe_land r) claim listed lines lawful valid

  -- the recipes of a valid certificate are of the grid
  pub claimed_recipe_fits : IfSome (claimed_recipe claim) (IsRecipe r.grid)
  claimed_recipe_fits = claim_in_grid r listed claim meaning

  pub listed_recipes_fit : All (IsRecipe r.grid) listed
  listed_recipes_fit = λ k d h. in_grid r _ (meaning.unsure k d h).grid

-- one more recipe is shown
pub shown_more : (r : ResolvedJob) (recipes : List (ArrayVec ℕ)) (k : ℕ) (steps : ArrayVec ℕ) (each more : List Shown) (one : Shown) → k < length recipes → steps ≡ get_or recipes k steps
    → map shown_view each ≡ map (λ s. recipe_values r s.items) (take k recipes) → more ≡ each ++ one ∷ [] → shown_view one ≡ recipe_values r steps.items
    → map shown_view more ≡ map (λ s. recipe_values r s.items) (take (k + 1) recipes)
shown_more r recipes k steps each more one h is so_far grown shown =
    let f : ArrayVec ℕ → _ = λ s. recipe_values r s.items in
    ap (map shown_view) grown ∙ map-append shown_view each (one ∷ []) ∙ (λ i. so_far i ++ shown i ∷ []) ∙ (λ i. map f (take k recipes) ++ f (is i) ∷ [])
    ∙ sym (map-append f (take k recipes) (get_or recipes k steps ∷ [])) ∙ ap (map f) (sym (take-suc recipes k steps h)) ∙ (λ i. map f (take (sym (add-one k) i) recipes))

-- the text about the result of a search
abbrev pub result_text_is : ResolvedJob → SearchResult → List ℕ
result_text_is r s = outcome_text r.job s.claim s.boxes (matched_values r s.claim) (map (recipe_values r) s.listed)

-- the recipes of the outcome of a search are of the grid
module _ (r : ResolvedJob) (lawful : IsLawful (recipe_land r)) where
  pub found_claims : {E : Type 0} (result : Result Outcome E) → IfOk result (λ o. IsValid (recipe_land r) o.cert.claim o.cert.undecided o.cert.lines) → IfOk result (λ o. IfSome (claimed_recipe o.cert.claim) (IsRecipe r.grid))
  found_claims (Ok o) valid = claimed_recipe_fits r lawful o.cert.claim o.cert.undecided o.cert.lines valid
  found_claims (Err e) valid = tt

  pub found_lists : {E : Type 0} (result : Result Outcome E) → IfOk result (λ o. IsValid (recipe_land r) o.cert.claim o.cert.undecided o.cert.lines) → IfOk result (λ o. All (IsRecipe r.grid) o.cert.undecided)
  found_lists (Ok o) valid = listed_recipes_fit r lawful o.cert.claim o.cert.undecided o.cert.lines valid
  found_lists (Err e) valid = tt

-- ---- what is shown

-- recipes as lists of steps
each_recipe : (grid : List DyeCost) (recipes : List (ArrayVec ℕ)) → All (IsRecipe grid) (map (λ s. s.items) recipes) → All (λ s. IsRecipe grid s.items) recipes
each_recipe grid recipes all = λ k d h. subst (IsRecipe grid) (get_or-map (λ s. s.items) recipes k d d.items h) (all k d.items (subst (λ n. k < n) (sym (length-map recipes (λ s. s.items))) h))

pub recipes_of_list : (grid : List DyeCost) (recipes : List (ArrayVec ℕ)) (listed : List (List ℕ)) → map (λ s. s.items) recipes ≡ listed → All (IsRecipe grid) listed → All (λ s. IsRecipe grid s.items) recipes
recipes_of_list grid recipes listed is all = each_recipe grid recipes (subst (All (IsRecipe grid)) (sym is) all)

match_fits : (r : ResolvedJob) (claim : Claim) (values : RecipeValues) → IsLand r → IfSome (claimed_recipe claim) (IsRecipe r.grid) → Some values ≡ matched_values r claim → FitsJob r.job values
match_fits r (Match recipe) values land fits is = let same : recipe_values r recipe.items ≡ values = cc in subst (FitsJob r.job) same (recipe_fits r recipe.items land fits)
match_fits r NoMatch values land fits is = cc
match_fits r (Floor cost) values land fits is = cc

-- the recipe of a match fits the job
pub matched_fits : (r : ResolvedJob) (claim : Claim) (lent : Option (Bor Shown)) (matched : Option Shown) → IsLand r → IfSome (claimed_recipe claim) (IsRecipe r.grid) → option_copied lent ≡ matched → option_map shown_view matched ≡ matched_values r claim
    → IfSome lent (λ m. FitsJob r.job (shown_view m.now))
matched_fits r claim None matched land fits is values = tt
matched_fits r claim (Some m) matched land fits is values = match_fits r claim (shown_view m.now) land fits (ap (option_map shown_view) is ∙ values)

-- a borrowed recipe is shown as the same recipe
lent_values : (lent : Option (Bor Shown)) → option_map (λ m. shown_view m.now) lent ≡ option_map shown_view (option_copied lent)
lent_values None = refl
lent_values (Some m) = refl

pub matched_shown : (r : ResolvedJob) (claim : Claim) (lent : Option (Bor Shown)) (matched : Option Shown) → option_copied lent ≡ matched → option_map shown_view matched ≡ matched_values r claim
    → option_map (λ m. shown_view m.now) lent ≡ matched_values r claim
matched_shown r claim lent matched is values = lent_values lent ∙ ap (option_map shown_view) is ∙ values

composed : (r : ResolvedJob) (recipes : List (ArrayVec ℕ)) → map (λ s. recipe_values r s.items) recipes ≡ map (recipe_values r) (map (λ s. s.items) recipes)
composed r [] = refl
composed r (s ∷ recipes) = ap (λ rest. recipe_values r s.items ∷ rest) (composed r recipes)

-- they are shown in order
pub listed_shown : (r : ResolvedJob) (each : List Shown) (recipes : List (ArrayVec ℕ)) (listed : List (List ℕ)) → map (λ s. s.items) recipes ≡ listed → map shown_view each ≡ map (λ s. recipe_values r s.items) recipes → map shown_view each ≡ map (recipe_values r) listed
listed_shown r each recipes listed is shown = shown ∙ composed r recipes ∙ ap (map (recipe_values r)) is
