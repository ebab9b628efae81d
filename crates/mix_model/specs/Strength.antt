-- Mixtures that are too strong.
use Rattle.std.specs.Prelude.{ℕ, ◌*◌, ◌^◌, pos, Bool, int_lt, List}
use Rattle.std.specs.List.{list_any}
use Rattle.interval_specs.specs.Ends.{Ends}
use Rattle.mix_model.specs.Mixture.{Portion, mixture_ks_at}
use Rattle.fix_bounds.specs.Scales.{base_unit}

-- the upper end of a sum, at scale n, is above 10^6
abbrev pub is_strong : ℕ → Ends → Bool
is_strong n sum = int_lt (pos (10 ^ 6 * n)) sum.hi

-- at some wavelength the upper end, at scale 10^12, of the K/S of the base plus what the dyes add is
-- above 10^6
unfoldable pub is_too_strong : List Ends → List Portion → Bool
is_too_strong base ps = list_any (is_strong base_unit) (mixture_ks_at base_unit base ps)
