-- The law of the differences of recipes: a chain of the laws of the base, of mixing, of spectra and
-- of the difference.
use Rattle.std.proofs.Common.{◌*◌, ◌^◌, ◌≤◌, ◌<◌, ◌*ℤ◌, ℕ, pos, None, List, [], ◌∷◌, All, arith}
use Rattle.std.specs.List.{AllZip}
use Rattle.std.proofs.lemmas.List.Elements.{All-cons, All-tail}
use Rattle.interval_specs.specs.Ends.{Ends}
use Rattle.interval_specs.specs.Encloses.{Encloses}
use Rattle.interval_specs.specs.Ranges.{UpTo}
use Rattle.interval_specs.proofs.Laws.{low_not_negative}
use Rattle.interval_specs.proofs.Order.{mono_left, trans_ℤ}
use Rattle.cmc_specs.specs.Cmc.{cmc_at}
use Rattle.cmc_specs.proofs.Law.{cmc_encloses}
use Rattle.job_keys.specs.declared.light.JobLight.{JobLight}
use Rattle.job_file.specs.Resolve.{base_curve}
use Rattle.metamerism.proofs.DifferenceLaws.{encloses_finer}
use Rattle.mix_model.specs.Base.{base_at}
use Rattle.mix_model.specs.Mixture.{portions}
use Rattle.mix_model.proofs.MixtureLaws.{base_encloses, mixed_in_range, mixture_encloses}
use Rattle.spectral_tables.specs.Laws.{EnclosesWaves}
use Rattle.spectral_tables.specs.Spectrum.{spectrum_at}
use Rattle.spectral_tables.specs.WeightTable.{IsWeightTable, WeightTable}
use Rattle.spectral_tables.proofs.SpectrumLaws.{spectrum_encloses, spectrum_in_range}
use Rattle.recipe_judge.specs.Evaluation.{differences_under, spectrum_of}
use Rattle.recipe_judge.specs.Laws.{DifferencesEnclose}
use Rattle.recipe_judge.proofs.Boxes.{can_mix, portions_ordered}

-- what is enclosed by an interval from 0 to 1 is itself from 0 to 1
finer_up_to : (n m : ℕ) (a b : Ends) → UpTo n a → Encloses m a b → UpTo (m * n) b
finer_up_to n m a b range h =
    record { not_negative = low_not_negative m a b h range.not_negative; ordered = h.ordered; below = trans_ℤ b.hi (pos m *ℤ a.hi) (pos (m * n)) h.high (mono_left m a.hi (pos n) range.below) }

pub waves_up_to : (n m : ℕ) (as' bs : List Ends) → All (UpTo n) as' → EnclosesWaves m as' bs → All (UpTo (m * n)) bs
waves_up_to n m [] [] range h = λ k d lt. absurd (omega (arith, lt))
waves_up_to n m [] (b ∷ bs) range h = absurd h
waves_up_to n m (a ∷ as') [] range h = absurd h
waves_up_to n m (a ∷ as') (b ∷ bs) range h =
    All-cons (UpTo (m * n)) b bs (finer_up_to n m a b (range 0 a (omega arith)) h.0) (waves_up_to n m as' bs (All-tail (UpTo n) a as' range) h.1)

lights_enclose : (n m : ℕ) (lights : List JobLight) (tables : List WeightTable) (standard sample standard' sample' : List Ends) → 10 ^ 6 ≤ n → 0 < m → All IsWeightTable tables
    → All (UpTo n) standard → All (UpTo n) sample → EnclosesWaves m standard standard' → EnclosesWaves m sample sample'
    → AllZip (Encloses m) (differences_under n standard lights tables sample) (differences_under (m * n) standard' lights tables sample')
lights_enclose n m [] tables standard sample standard' sample' least some kept p q h g = tt
lights_enclose n m (l ∷ lights) [] standard sample standard' sample' least some kept p q h g = tt
lights_enclose n m (l ∷ lights) (w ∷ tables) standard sample standard' sample' least some kept p q h g = (
  encloses_finer (cmc_at l.l10 l.c10) (cmc_encloses l.l10 l.c10) None n m w standard sample standard' sample' least some (kept 0 w (omega arith)) p q
      (waves_up_to n m standard standard' p h) (waves_up_to n m sample sample' q g) h g,
  lights_enclose n m lights tables standard sample standard' sample' least some (All-tail IsWeightTable w tables kept) p q h g,
)

pub differences_enclose : DifferencesEnclose
differences_enclose r low high land h g m some =
    let curve = base_curve r.substrate r.batch in
    let ordered = portions_ordered r.dyes r.limits.bath low high h in
    lights_enclose (10 ^ 12) m r.job.light r.weights (spectrum_at (10 ^ 12) r.standard) (spectrum_of (10 ^ 12) r low high) (spectrum_at (m * 10 ^ 12) r.standard) (spectrum_of (m * 10 ^ 12) r low high)
    (omega arith) some land.weights (spectrum_in_range (10 ^ 12) r.standard land.standard).range
    (mixed_in_range (10 ^ 12) (base_at (10 ^ 12) curve) (portions r.dyes r.limits.bath low high) (omega arith) land.base ordered (can_mix r low high land.found land.grid h g).reflects)
    (spectrum_encloses (10 ^ 12) m r.standard)
    (mixture_encloses (10 ^ 12) m (base_at (10 ^ 12) curve) (base_at (m * 10 ^ 12) curve) (portions r.dyes r.limits.bath low high) (omega arith) some (base_encloses (10 ^ 12) m curve) ordered)
