-- Mixing by Kubelka and Munk with a single constant: the K/S of the base and of the dyes add up.
use Rattle.std.specs.Prelude.{◌≡◌, ◌+◌, ◌*◌, ◌^◌, ◌≤◌, ◌≤ℤ◌, ℕ, pos, List, [], ◌∷◌, All, length, map}
use Rattle.interval_specs.specs.Ends.{Ends, nothing}
use Rattle.interval_specs.specs.Operations.{cut_low_at, sum_of}
use Rattle.ks_curves.specs.Dye.{DyeData}
use Rattle.ks_curves.specs.Calibration.{addition_over}
use Rattle.mix_model.specs.declared.dose.Dose.{Dose}
use Rattle.mix_model.specs.Reflectance.{reflectance_at}

-- a dye in a mixture: an addition of `from` to `upto` units of it, where `bath` units of it are on
-- the cloth
pub record Portion : Type 0 where
  pub dye : DyeData
  pub bath : ℕ
  pub from : ℕ
  pub upto : ℕ

-- dyes with their doses, each list in the order of the dyes
unfoldable pub dosed : List DyeData → List Dose → List Portion
dosed [] doses = []
dosed (dye ∷ dyes) [] = []
dosed (dye ∷ dyes) (dose ∷ doses) = record { dye = dye; bath = dose.bath; from = dose.from; upto = dose.upto } ∷ dosed dyes doses

-- the doses of `lo` to `hi` steps of each dye, where the steps in `bath` are on the cloth
unfoldable pub doses_of : List DyeData → (bath lo hi : List ℕ) → List Dose
doses_of [] bath lo hi = []
doses_of (dye ∷ dyes) [] lo hi = []
doses_of (dye ∷ dyes) (b ∷ bath) [] hi = []
doses_of (dye ∷ dyes) (b ∷ bath) (l ∷ lo) [] = []
doses_of (dye ∷ dyes) (b ∷ bath) (l ∷ lo) (h ∷ hi) =
    record { bath = b * dye.step; from = l * dye.step; upto = h * dye.step } ∷ doses_of dyes bath lo hi

-- dyes with their steps
abbrev pub portions : List DyeData → (bath lo hi : List ℕ) → List Portion
portions dyes bath lo hi = dosed dyes (doses_of dyes bath lo hi)

-- no steps of any dye
abbrev pub no_steps : List DyeData → List ℕ
no_steps dyes = map (λ dye. 0) dyes

-- what all dyes add to K/S at a wavelength
unfoldable pub contributions_at : ℕ → ℕ → List Portion → Ends
contributions_at n wave [] = nothing
contributions_at n wave (p ∷ ps) = sum_of (addition_over n p.dye wave p.bath p.from p.upto) (contributions_at n wave ps)

-- the sums of a mixture from a wavelength on, where `base` begins at this wavelength
unfoldable pub mixture_from : ℕ → List Portion → ℕ → List Ends → List Ends
mixture_from n ps wave [] = []
mixture_from n ps wave (k ∷ base) = sum_of k (contributions_at n wave ps) ∷ mixture_from n ps (wave + 1) base

-- the sums of a mixture: at each wavelength the K/S of the base plus what the dyes add. An addition
-- to a bath may lower K/S, so a sum may be below 0
abbrev pub mixture_ks_at : ℕ → List Ends → List Portion → List Ends
mixture_ks_at n base ps = mixture_from n ps 0 base

-- q, the K/S at each wavelength: a sum below 0 is taken as 0
unfoldable pub strengths_of : ℕ → List Ends → List Ends
strengths_of n sums = map (cut_low_at n (pos 0)) sums

-- the reflectance at each wavelength, from the sums
unfoldable pub reflectances_of : ℕ → List Ends → List Ends
reflectances_of n sums = map (reflectance_at n) (strengths_of n sums)

-- the reflectance of the mixture at each wavelength
abbrev pub mixed_at : ℕ → List Ends → List Portion → List Ends
mixed_at n base ps = reflectances_of n (mixture_ks_at n base ps)

-- a portion that can be added to a base of `count` wavelengths
pub record IsPortion (count : ℕ) (p : Portion) : Type 0 where
  pub ordered : p.from ≤ p.upto
  pub units : p.bath + p.upto ≤ 40000
  pub waves : length p.dye.substrate ≡ count

-- up to 12 dyes that can be added to a base of `count` wavelengths in these doses, one for each dye
pub record CanDose (count : ℕ) (dyes : List DyeData) (doses : List Dose) : Type 0 where
  pub few : length dyes ≤ 12
  pub doses_count : length doses ≡ length dyes
  pub each : All (IsPortion count) (dosed dyes doses)

-- as many steps, and in the bath, as dyes
pub record HaveSteps (dyes : List DyeData) (bath lo hi : List ℕ) : Type 0 where
  pub few : length dyes ≤ 12
  pub bath_count : length bath ≡ length dyes
  pub lo_count : length lo ≡ length dyes
  pub hi_count : length hi ≡ length dyes

-- dyes that can be added to a base of `count` wavelengths in these steps
pub record CanAdd (count : ℕ) (dyes : List DyeData) (bath lo hi : List ℕ) : Type 0 where
  pub steps : HaveSteps dyes bath lo hi
  pub each : All (IsPortion count) (portions dyes bath lo hi)

-- sums that are not too strong to be turned into reflectances: at most 2 * 10^6
abbrev pub CanReflect : ℕ → List Ends → Type 0
CanReflect n sums = All (λ sum. sum.hi ≤ℤ pos (2 * 10 ^ 6 * n)) sums

-- doses that can be mixed
pub record CanMixDoses (n : ℕ) (base : List Ends) (dyes : List DyeData) (doses : List Dose) : Type 0 where
  pub adds : CanDose (length base) dyes doses
  pub reflects : CanReflect n (mixture_ks_at n base (dosed dyes doses))

-- steps that can be mixed
pub record CanMix (n : ℕ) (base : List Ends) (dyes : List DyeData) (bath lo hi : List ℕ) : Type 0 where
  pub adds : CanAdd (length base) dyes bath lo hi
  pub reflects : CanReflect n (mixture_ks_at n base (portions dyes bath lo hi))
