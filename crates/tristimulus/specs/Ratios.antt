-- Tristimulus ratios (ASTM E308): sums of weights times reflectances, each over the value of white.
use Rattle.std.specs.Prelude.{ℕ, pos, List, [], ◌∷◌, unsigned_abs}
use Rattle.interval_specs.specs.Ends.{Ends, nothing}
use Rattle.fix_bounds.specs.Ratios.{RatioEnds}
use Rattle.interval_specs.specs.Operations.{sum_of, multiple_of, fraction_of, cut_low_at}
use Rattle.spectral_tables.specs.WeightTable.{Triple, WeightTable, at_column}

-- The sum of a column's weights, each times the reflectance at its wavelength. For a weight below
-- 0, the lower end of the product comes from the upper end of the reflectance.
unfoldable pub weighted_sum : ℕ → List Triple → List Ends → Ends
weighted_sum column [] spectrum = nothing
weighted_sum column (triple ∷ triples) [] = nothing
weighted_sum column (triple ∷ triples) (reflectance ∷ rest) = sum_of (multiple_of (at_column column triple) reflectance) (weighted_sum column triples rest)

-- a column's ratio to white at scale n, where a sum below 0 is taken as 0
unfoldable pub ratio_at_column : ℕ → ℕ → List Ends → WeightTable → Ends
ratio_at_column n column spectrum w =
    cut_low_at n (pos 0) (fraction_of 1 (unsigned_abs (at_column column w.white)) (weighted_sum column w.weights spectrum))

-- the three ratios of a spectrum at scale n
unfoldable pub ratios_at : ℕ → List Ends → WeightTable → RatioEnds
ratios_at n spectrum w = record { x = ratio_at_column n 0 spectrum w; y = ratio_at_column n 1 spectrum w; z = ratio_at_column n 2 spectrum w }
