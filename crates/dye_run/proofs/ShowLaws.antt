-- The report of `show`: its enclosures hold those of every finer scale, and a pass or a fail under
-- a light stays one there.
use Rattle.std.proofs.Common.{◌≡◌, ◌+◌, ◌*◌, ◌<◌, ◌≤◌, ℕ, Bool, true, false, if◌then◌else◌, List, [], ◌∷◌, map, Some, None, All, lit≤, ap, refl, arith}
use Rattle.std.specs.List.{AllZip}
use Rattle.std.proofs.lemmas.List.Elements.{All-cons}
use Rattle.cielab_bounds.specs.Laws.{EnclosesLab}
use Rattle.cielab_bounds.proofs.LabLaw.{lab_encloses}
use Rattle.cmc_specs.proofs.Law.{any_colours_enclose}
use Rattle.interval_specs.specs.Ends.{Ends}
use Rattle.interval_specs.specs.Encloses.{Encloses}
use Rattle.job_keys.specs.declared.light.JobLight.{JobLight}
use Rattle.job_file.specs.Resolve.{ResolvedJob, base_curve}
use Rattle.ks_curves.specs.Dye.{DyeData}
use Rattle.metamerism.specs.Difference.{colour_under}
use Rattle.metamerism.specs.Verdicts.{light_verdict}
use Rattle.metamerism.specs.declared.outcomes.Verdict.TheVariants.{Fail, Pass, Undecided}
use Rattle.mix_model.specs.Mixture.{Portion, dosed, doses_of, portions}
use Rattle.mix_model.proofs.MixtureLaws.{any_mixture_encloses}
use Rattle.recipe_judge.specs.Evaluation.{difference_of_light, differences_at, differences_under, spectrum_of, tolerances}
use Rattle.shade_report.specs.Recipes.{verdict_name}
use Rattle.spectral_tables.specs.Laws.{EnclosesWaves}
use Rattle.spectral_tables.specs.Spectrum.{spectrum_at}
use Rattle.spectral_tables.specs.WeightTable.{WeightTable}
use Rattle.spectral_tables.proofs.SpectrumLaws.{spectrum_encloses}
use Rattle.tristimulus.specs.Ratios.{ratios_at}
use Rattle.tristimulus.proofs.RatioLaws.{ratio_not_negative, ratios_enclose}
use Rattle.run_core.specs.Answers.{StandsFiner}
use Rattle.fix_bounds.specs.Scales.{base_unit}
use Rattle.dye_run.specs.Headline.{AreEvaluated, IsVerdictOf}
use Rattle.run_core.specs.Outcome.{outcome_of}
use Rattle.dye_run.specs.Search.{evaluations_of}
use Rattle.dye_run.specs.Show.{ShowWords, light_evaluation, light_evaluations, recipe_from, recipe_values, show_report, verdicts_from}
use Rattle.dye_run.proofs.Colours.{no_more}
use Rattle.run_core.proofs.Proper.{IsProper, proper_report, proper_then}
use Rattle.dye_run.proofs.Verdicts.{stands}

-- in the portions of one recipe, taken as a box, the least units are at most the most
one_recipe : (dyes : List DyeData) (bath recipe : List ℕ) → All (λ p. p.from ≤ p.upto) (portions dyes bath recipe recipe)
unfolding dosed doses_of
one_recipe [] bath recipe = λ k d h. absurd (omega arith)
one_recipe (dye ∷ dyes) [] recipe = λ k d h. absurd (omega arith)
one_recipe (dye ∷ dyes) (b ∷ bath) [] = λ k d h. absurd (omega arith)
one_recipe (dye ∷ dyes) (b ∷ bath) (n ∷ recipe) =
    All-cons (λ (p : Portion). p.from ≤ p.upto) (record { dye = dye; bath = b * dye.step; from = n * dye.step; upto = n * dye.step }) (portions dyes bath recipe recipe) (omega arith) (one_recipe dyes bath recipe)

-- the colour of a spectrum under weights keeps enclosing where the scale grows from n to m * n
colour_encloses : (n m : ℕ) (weights : WeightTable) (spectrum finer : List Ends) → 0 < m → EnclosesWaves m spectrum finer → EnclosesLab m (colour_under weights n spectrum) (colour_under weights (m * n) finer)
unfolding colour_under ratios_at
colour_encloses n m weights spectrum finer some h =
    let at = λ (column : ℕ). ratio_not_negative n column spectrum weights in
    lab_encloses n m (ratios_at n spectrum weights) (ratios_at (m * n) finer weights) some (at 0) (at 1) (at 2) (ratios_enclose n m spectrum finer weights h)

light_stands : (r : ResolvedJob) (recipe : List ℕ) (number : ℕ) (light : JobLight) (weights : WeightTable) → StandsFiner (light_evaluation r recipe number light weights)
light_stands r recipe number light weights =
    let e = light_evaluation r recipe number light weights in
    let curve = base_curve r.substrate r.batch in
    stands e.label e.at (Some light.tolerance) (λ m some.
    any_colours_enclose light.l10 light.c10 base_unit m _ _ _ _ (lit≤ tt) some
    (colour_encloses base_unit m weights (spectrum_at base_unit r.standard) (spectrum_at (m * base_unit) r.standard) some (spectrum_encloses base_unit m r.standard))
    (colour_encloses base_unit m weights (spectrum_of base_unit r recipe recipe) (spectrum_of (m * base_unit) r recipe recipe) some
    (any_mixture_encloses base_unit m curve (portions r.dyes r.limits.bath recipe recipe) (lit≤ tt) some (one_recipe r.dyes r.limits.bath recipe))))

pub lights_stand : (r : ResolvedJob) (recipe : List ℕ) (number : ℕ) (lights : List JobLight) (tables : List WeightTable) → All StandsFiner (light_evaluations r recipe number lights tables)
unfolding light_evaluations
lights_stand r recipe number [] tables = no_more
lights_stand r recipe number (light ∷ lights) [] = no_more
lights_stand r recipe number (light ∷ lights) (weights ∷ tables) =
    All-cons StandsFiner (light_evaluation r recipe number light weights) (light_evaluations r recipe (number + 1) lights tables) (light_stands r recipe number light weights) (lights_stand r recipe (number + 1) lights tables)

-- the differences of a recipe under lights enclose those at every finer scale
lights_enclose : (r : ResolvedJob) (recipe : List ℕ) (m : ℕ) → 0 < m → (lights : List JobLight) (tables : List WeightTable)
    → AllZip (Encloses m) (differences_under base_unit (spectrum_at base_unit r.standard) lights tables (spectrum_of base_unit r recipe recipe))
    (differences_under (m * base_unit) (spectrum_at (m * base_unit) r.standard) lights tables (spectrum_of (m * base_unit) r recipe recipe))
lights_enclose r recipe m some [] tables = tt
lights_enclose r recipe m some (light ∷ lights) [] = tt
lights_enclose r recipe m some (light ∷ lights) (weights ∷ tables) = ((light_stands r recipe 1 light weights).encloses m some, lights_enclose r recipe m some lights tables)

pub differences_enclose : (r : ResolvedJob) (recipe : List ℕ) (m : ℕ) → 0 < m → AllZip (Encloses m) (differences_at base_unit r recipe recipe) (differences_at (m * base_unit) r recipe recipe)
differences_enclose r recipe m some = lights_enclose r recipe m some r.job.light r.weights

-- a verdict has the same name under a light of another number
same_name : (a b : Bool) (number other : ℕ) → verdict_name (if a then Pass else (if b then Fail number else Undecided)) ≡ verdict_name (if a then Pass else (if b then Fail other else Undecided))
same_name true b number other = refl
same_name false true number other = refl
same_name false false number other = refl

light_name : (n tolerance number other : ℕ) (delta : Ends) → verdict_name (light_verdict n tolerance number delta) ≡ verdict_name (light_verdict n tolerance other delta)
unfolding light_verdict
light_name n tolerance number other delta = same_name _ _ number other

-- the differences that are shown of a recipe are those of its evaluations
lights_ends : (r : ResolvedJob) (recipe : List ℕ) (number : ℕ) (lights : List JobLight) (tables : List WeightTable)
    → differences_under base_unit (spectrum_at base_unit r.standard) lights tables (spectrum_of base_unit r recipe recipe) ≡ map (λ e. e.at base_unit) (light_evaluations r recipe number lights tables)
unfolding light_evaluations
lights_ends r recipe number [] tables = refl
lights_ends r recipe number (light ∷ lights) [] = refl
lights_ends r recipe number (light ∷ lights) (weights ∷ tables) =
    ap (λ rest. difference_of_light base_unit (spectrum_at base_unit r.standard) light weights (spectrum_of base_unit r recipe recipe) ∷ rest) (lights_ends r recipe (number + 1) lights tables)

-- so are the verdicts
lights_verdicts : (r : ResolvedJob) (recipe : List ℕ) (number : ℕ) (lights : List JobLight) (tables : List WeightTable)
    → AllZip IsVerdictOf (light_evaluations r recipe number lights tables) (verdicts_from number (tolerances lights) (differences_under base_unit (spectrum_at base_unit r.standard) lights tables (spectrum_of base_unit r recipe recipe)))
unfolding light_evaluations verdicts_from
lights_verdicts r recipe number [] tables = tt
lights_verdicts r recipe number (light ∷ lights) [] = tt
lights_verdicts r recipe number (light ∷ lights) (weights ∷ tables) = (
  (light.tolerance, refl, light_name base_unit light.tolerance number 1 (difference_of_light base_unit (spectrum_at base_unit r.standard) light weights (spectrum_of base_unit r recipe recipe))),
  lights_verdicts r recipe (number + 1) lights tables,
)

pub recipe_evaluated : (r : ResolvedJob) (recipe : List ℕ) → AreEvaluated (recipe_values r recipe) (evaluations_of r recipe)
recipe_evaluated r recipe = record { ends = lights_ends r recipe 1 r.job.light r.weights; verdicts = lights_verdicts r recipe 1 r.job.light r.weights }

pub show_proper : (words : ShowWords) (r : ResolvedJob) → IsProper None (outcome_of (show_report words r))
unfolding show_report
show_proper words r = proper_then (recipe_from r words.steps) _ (λ recipe. proper_report refl (lights_stand r recipe 1 r.job.light r.weights))
