-- Sums of K/S that are kept for a box of recipes, and narrowed to a box within it.
use Rattle.std.specs.Prelude.{◌≡◌, ◌≤◌, ℕ, Some, List, length, slice_get, slice_set}
use Rattle.interval_specs.specs.Ends.{Ends}
use Rattle.spectral_tables.specs.Grid.{IsWaveCount}
use Rattle.ks_curves.specs.Dye.{DyeData}
use Rattle.mix_model.specs.Base.{IsBase}
use Rattle.mix_model.specs.Mixture.{CanMix, CanReflect, mixture_ks_at, portions}

-- what holds of all sums that are kept
pub record AreSums (n : ℕ) (sums : List Ends) : Type 0 where
  pub count : IsWaveCount (length sums)
  pub reflects : CanReflect n sums

-- sums are those of a box on a base: of all recipes from `lo` to `hi` steps of each dye, onto a bath
pub record AreSumsOf (n : ℕ) (sums base : List Ends) (dyes : List DyeData) (bath lo hi : List ℕ) : Type 0 where
  pub is_base : IsBase n base
  pub mixes : CanMix n base dyes bath lo hi
  pub are : sums ≡ mixture_ks_at n base (portions dyes bath lo hi)

-- the fewest and the most steps of a dye in a box, where `dye` is an index
pub record HasRange (lo hi : List ℕ) (dye : ℕ) (range : ℕ × ℕ) : Type 0 where
  pub fewest : slice_get lo dye ≡ Some range.0
  pub most : slice_get hi dye ≡ Some range.1

-- sums are those of some box in which a dye has this range
pub record AreOfRange (n : ℕ) (sums : List Ends) (dyes : List DyeData) (bath : List ℕ) (dye : ℕ) (range : ℕ × ℕ) : Type 0 where
  pub base : List Ends
  pub lo : List ℕ
  pub hi : List ℕ
  pub are : AreSumsOf n sums base dyes bath lo hi
  pub range_is : HasRange lo hi dye range

-- a range lies within another
pub record IsSubrange (outer inner : ℕ × ℕ) : Type 0 where
  pub fewest : outer.0 ≤ inner.0
  pub ordered : inner.0 ≤ inner.1
  pub most : inner.1 ≤ outer.1

-- of whichever box with the old range the sums are, the narrowed ones are those of that box with the
-- new range in its place
abbrev pub AreNarrowed : ℕ → (sums narrowed : List Ends) → List DyeData → List ℕ → ℕ → (old new : ℕ × ℕ) → Type 0
AreNarrowed n sums narrowed dyes bath dye old new =
    (base : List Ends) (lo hi : List ℕ) → AreSumsOf n sums base dyes bath lo hi → HasRange lo hi dye old
    → AreSumsOf n narrowed base dyes bath (slice_set lo dye new.0) (slice_set hi dye new.1)
