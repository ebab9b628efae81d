-- What dyes are added to: the K/S of a measured curve, wavelength by wavelength.
use Rattle.std.specs.Prelude.{ℕ, ◌*◌, List, All, length, map}
use Rattle.interval_specs.specs.Ends.{Ends}
use Rattle.interval_specs.specs.Ranges.{UpTo}
use Rattle.spectral_tables.specs.Grid.{IsWaveCount}
use Rattle.ks_curves.specs.KubelkaMunk.{ks_at}

-- the K/S of each reflectance of a curve, at scale n
unfoldable pub base_at : ℕ → List ℕ → List Ends
base_at n curve = map (ks_at n) curve

-- what holds of every base: K/S from 0 to 5000 at each wavelength
pub record IsBase (n : ℕ) (base : List Ends) : Type 0 where
  pub count : IsWaveCount (length base)
  pub range : All (UpTo (5000 * n)) base
