-- By the invariant, the lights of a job have the defined differences of a sample.
use Rattle.std.proofs.Common.{◌≡◌, ◌∙◌, ◌^◌, ℕ, List, length, refl, ap}
use Rattle.std.proofs.lemmas.List.{length-map}
use Rattle.interval_specs.specs.Ends.{Ends}
use Rattle.job_file.specs.Resolve.{ResolvedJob}
use Rattle.metamerism.specs.Verdicts.{verdict_at}
use Rattle.price_grid.specs.Limits.{LimitsView}
use Rattle.spectral_tables.specs.Spectrum.{spectrum_at}
use Rattle.recipe_judge.specs.Evaluation.{differences_at, differences_under, spectrum_of, tolerances}
use Rattle.recipe_judge.specs.Land.{KeepsLand}

module _ (r : ResolvedJob) (limits : LimitsView) (base : List Ends) (of_lights : List ℕ) (deltas : List Ends → List Ends) (places : ℕ) (kept : KeepsLand r limits base of_lights deltas places) where
  -- as many tolerances as lights
  pub kept_lights : length of_lights ≡ length r.job.light
  kept_lights = ap length kept.tolerances_are ∙ length-map r.job.light (λ light. light.tolerance)

  -- the differences of the recipes of a box together
  pub kept_deltas : (low high : List ℕ) (sample : List Ends) → sample ≡ spectrum_of (10 ^ 12) r low high → deltas sample ≡ differences_at (10 ^ 12) r low high
  kept_deltas low high sample e = kept.deltas_are sample ∙ ap (λ (s : List Ends). differences_under (10 ^ 12) (spectrum_at (10 ^ 12) r.standard) r.job.light r.weights s) e

  -- the verdict on these differences
  pub kept_verdict : (low high : List ℕ) (sample : List Ends) → sample ≡ spectrum_of (10 ^ 12) r low high
      → verdict_at (10 ^ 12) of_lights (deltas sample) ≡ verdict_at (10 ^ 12) (tolerances r.job.light) (differences_at (10 ^ 12) r low high)
  kept_verdict low high sample e = rw (kept_deltas low high sample e, kept.tolerances_are) refl
