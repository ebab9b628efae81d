-- Spectra and weights of a job have as many places as its curves.
use Rattle.std.proofs.Common.{◌≡◌, ◌∙◌, ◌<◌, ◌*◌, ◌^◌, ℕ, pos, Option, Some, None, List, IfSome, length, get_or, refl, sym, subst, ap}
use Rattle.std.proofs.lemmas.List.{length-map}
use Rattle.interval_specs.specs.Ends.{Ends}
use Rattle.interval_specs.specs.Operations.{ratio_at}
use Rattle.job_file.specs.Resolve.{ResolvedJob, base_curve}
use Rattle.job_file.specs.ResolvedKept.{HaveEqualWaves}
use Rattle.mix_model.specs.Base.{base_at}
use Rattle.mix_model.specs.Mixture.{portions}
use Rattle.mix_model.proofs.MixtureLaws.{length-base, length-mixed}
use Rattle.spectral_tables.specs.Spectrum.{spectrum_at}
use Rattle.spectral_tables.specs.WeightTable.{WeightTable, HasItemEachWave}
use Rattle.recipe_judge.specs.Evaluation.{spectrum_of}

pub length-base_curve : (r : ResolvedJob) → HaveEqualWaves r → length (base_curve r.substrate r.batch) ≡ length r.substrate
length-base_curve r equal = by r.batch equal.batch
  where
    by : (batch : Option (List ℕ)) → IfSome batch (λ c. length c ≡ length r.substrate) → length (base_curve r.substrate batch) ≡ length r.substrate
    by None h = refl
    by (Some c) h = h

-- the spectrum of recipes has a place for each wavelength of the curves
pub length-spectrum : (r : ResolvedJob) (n : ℕ) (low high : List ℕ) → HaveEqualWaves r → length (spectrum_of n r low high) ≡ length r.substrate
length-spectrum r n low high equal =
    let curve = base_curve r.substrate r.batch in
    length-mixed n (portions r.dyes r.limits.bath low high) (base_at n curve) ∙ length-base n curve ∙ length-base_curve r equal

pub length-spectrum_at : (n : ℕ) (curve : List ℕ) → length (spectrum_at n curve) ≡ length curve
unfolding spectrum_at
length-spectrum_at n curve = length-map curve (λ m. ratio_at n (pos m) (10 ^ 6))

pub table_waves : (r : ResolvedJob) (i : ℕ) (table : WeightTable) → HaveEqualWaves r → i < length r.weights → table ≡ get_or r.weights i table → length table.weights ≡ length r.substrate
table_waves r i table equal lt is = ap (λ (w : WeightTable). length w.weights) is ∙ equal.weights i table lt

-- the standard has a place for each wavelength of each light
pub standard_fits : (r : ResolvedJob) (n i : ℕ) (table : WeightTable) (standard : List Ends) → HaveEqualWaves r → standard ≡ spectrum_at n r.standard → i < length r.weights → table ≡ get_or r.weights i table
    → HasItemEachWave table standard
standard_fits r n i table standard equal is lt at =
    λ _. ap length is ∙ length-spectrum_at n r.standard ∙ equal.standard ∙ sym (table_waves r i table equal lt at)
