-- The evaluation of the recipes of a job, at every scale n: their spectrum, and their differences
-- from the standard under the lights. It is defined for all recipes of a box together, those from
-- low to high steps of each dye. One recipe is the box whose low and high steps are both its steps.
use Rattle.std.specs.Prelude.{ℕ, List, [], ◌∷◌, map}
use Rattle.interval_specs.specs.Ends.{Ends}
use Rattle.cmc_specs.specs.Cmc.{cmc_at}
use Rattle.job_keys.specs.declared.light.JobLight.{JobLight}
use Rattle.job_file.specs.Resolve.{ResolvedJob, base_curve}
use Rattle.metamerism.specs.Difference.{difference_under}
use Rattle.mix_model.specs.Base.{base_at}
use Rattle.mix_model.specs.Mixture.{mixed_at, portions}
use Rattle.spectral_tables.specs.Spectrum.{spectrum_at}
use Rattle.spectral_tables.specs.WeightTable.{WeightTable}

-- the reflectances of the dyes on the cloth of the batch, or on the undyed cloth if there is no
-- batch. The bath is that of the job's limits, which has no dye
abbrev pub spectrum_of : ℕ → ResolvedJob → (low high : List ℕ) → List Ends
spectrum_of n r low high = mixed_at n (base_at n (base_curve r.substrate r.batch)) (portions r.dyes r.limits.bath low high)

-- the CMC(l:c) difference of a sample from the standard, each given by its spectrum, under a light
-- with these weights
abbrev pub difference_of_light : ℕ → (standard : List Ends) → JobLight → WeightTable → (sample : List Ends) → Ends
difference_of_light n standard light weights sample = difference_under (cmc_at light.l10 light.c10) weights n standard sample

-- the differences of a sample under lights with their weights, in order
abbrev pub differences_under : ℕ → (standard : List Ends) → List JobLight → List WeightTable → (sample : List Ends) → List Ends
differences_under n standard [] tables sample = []
differences_under n standard (light ∷ lights) [] sample = []
differences_under n standard (light ∷ lights) (weights ∷ tables) sample =
    difference_of_light n standard light weights sample ∷ differences_under n standard lights tables sample

-- the differences of the recipes from low to high steps of each dye
abbrev pub differences_at : ℕ → ResolvedJob → (low high : List ℕ) → List Ends
differences_at n r low high = differences_under n (spectrum_at n r.standard) r.job.light r.weights (spectrum_of n r low high)

-- the tolerances of lights, in thousandths
abbrev pub tolerances : List JobLight → List ℕ
tolerances lights = map (λ light. light.tolerance) lights
