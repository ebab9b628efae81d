-- The law of boxes: the differences over a box enclose those over each box within it, at the base
-- scale and at every finer one. It is a chain of the laws of mixing, of spectra and of the
-- difference at one scale.
use Rattle.std.proofs.Common.{◌≡◌, ◌*◌, ◌^◌, ◌≤◌, ◌<◌, ◌∙◌, ℕ, None, List, [], ◌∷◌, All, length, sym, subst, arith}
use Rattle.std.specs.List.{AllZip}
use Rattle.std.proofs.lemmas.List.Elements.{All-tail}
use Rattle.interval_specs.specs.Ends.{Ends}
use Rattle.interval_specs.specs.Encloses.{Encloses}
use Rattle.interval_specs.specs.Ranges.{UpTo}
use Rattle.cmc_specs.specs.Cmc.{cmc_at}
use Rattle.cmc_specs.proofs.Law.{cmc_encloses}
use Rattle.job_keys.specs.declared.light.JobLight.{JobLight}
use Rattle.job_file.specs.Resolve.{ResolvedJob, base_curve}
use Rattle.metamerism.proofs.DifferenceLaws.{encloses_narrower, waves_enclose_themselves}
use Rattle.mix_model.specs.Base.{IsBase, base_at}
use Rattle.mix_model.specs.Mixture.{portions}
use Rattle.mix_model.proofs.MixtureLaws.{base_encloses, length-base, mixed_in_range, mixture_encloses, mixture_narrows}
use Rattle.price_grid.specs.Grid.{IsRecipe, IsUpTo}
use Rattle.spectral_tables.specs.Laws.{EnclosesWaves}
use Rattle.spectral_tables.specs.Spectrum.{spectrum_at}
use Rattle.spectral_tables.specs.WeightTable.{IsWeightTable, WeightTable}
use Rattle.spectral_tables.specs.Grid.{IsWaveCount}
use Rattle.spectral_tables.proofs.SpectrumLaws.{spectrum_in_range}
use Rattle.recipe_judge.specs.Evaluation.{differences_under, spectrum_of}
use Rattle.recipe_judge.specs.Land.{IsLand}
use Rattle.recipe_judge.specs.Laws.{DifferencesNarrow}
use Rattle.recipe_judge.proofs.Boxes.{can_mix, portions_ordered}
use Rattle.recipe_judge.proofs.FinerLaw.{waves_up_to}
use Rattle.recipe_judge.proofs.GridBoxes.{portions_within, up_to_last, fewer_is_recipe}

lights_narrow : (n : ℕ) (lights : List JobLight) (tables : List WeightTable) (standard sample sample' : List Ends) → 10 ^ 6 ≤ n → All IsWeightTable tables
    → All (UpTo n) standard → All (UpTo n) sample → All (UpTo n) sample' → EnclosesWaves 1 sample sample'
    → AllZip (Encloses 1) (differences_under n standard lights tables sample) (differences_under n standard lights tables sample')
lights_narrow n [] tables standard sample sample' least kept p q q' g = tt
lights_narrow n (l ∷ lights) [] standard sample sample' least kept p q q' g = tt
lights_narrow n (l ∷ lights) (w ∷ tables) standard sample sample' least kept p q q' g = (
  encloses_narrower (cmc_at l.l10 l.c10) (cmc_encloses l.l10 l.c10) None n w standard sample standard sample' least (kept 0 w (omega arith)) p q p q' (waves_enclose_themselves n standard p) g,
  lights_narrow n lights tables standard sample sample' least (All-tail IsWeightTable w tables kept) p q q' g,
)

-- a base at a finer scale is a base
finer_base : (n m : ℕ) (curve : List ℕ) → IsBase n (base_at n curve) → IsBase (m * n) (base_at (m * n) curve)
finer_base n m curve kept = record {
  count = subst IsWaveCount (length-base n curve ∙ sym (length-base (m * n) curve)) kept.count;
  range = subst (λ k. All (UpTo k) (base_at (m * n) curve)) (omega arith) (waves_up_to (5000 * n) m (base_at n curve) (base_at (m * n) curve) kept.range (base_encloses n m curve));
}

-- the reflectances over a box are from 0 to 1, at every finer scale
spectrum_up_to : (r : ResolvedJob) (m : ℕ) (low high : List ℕ) → 0 < m → IsLand r → IsRecipe r.grid high → IsUpTo low high → All (UpTo (m * 10 ^ 12)) (spectrum_of (m * 10 ^ 12) r low high)
spectrum_up_to r m low high some land g h =
    let curve = base_curve r.substrate r.batch in
    let ordered = portions_ordered r.dyes r.limits.bath low high h in
    waves_up_to (10 ^ 12) m (spectrum_of (10 ^ 12) r low high) (spectrum_of (m * 10 ^ 12) r low high)
    (mixed_in_range (10 ^ 12) (base_at (10 ^ 12) curve) (portions r.dyes r.limits.bath low high) (omega arith) land.base ordered (can_mix r low high land.found land.grid h g).reflects)
    (mixture_encloses (10 ^ 12) m (base_at (10 ^ 12) curve) (base_at (m * 10 ^ 12) curve) (portions r.dyes r.limits.bath low high) (omega arith) some (base_encloses (10 ^ 12) m curve) ordered)

pub differences_narrow : DifferencesNarrow
differences_narrow r m low high low' high' some land g h k l =
    let n = m * 10 ^ 12 in
    let curve = base_curve r.substrate r.batch in
    let wide = up_to_last low high' high (up_to_last low low' high' h k) l in
    lights_narrow n r.job.light r.weights (spectrum_at n r.standard) (spectrum_of n r low high) (spectrum_of n r low' high') (omega (arith, some)) land.weights
    (spectrum_in_range n r.standard land.standard).range
    (spectrum_up_to r m low high some land g wide)
    (spectrum_up_to r m low' high' some land (fewer_is_recipe r.grid high' high l g) k)
    (mixture_narrows n (base_at n curve) (portions r.dyes r.limits.bath low high) (portions r.dyes r.limits.bath low' high') (omega (arith, some)) (finer_base (10 ^ 12) m curve land.base)
    (portions_within r.dyes r.limits.bath low high low' high' h k l))
