-- The colour of a measured curve under the weights of a light and observer.
use Rattle.std.specs.Prelude.{ℕ, List}
use Rattle.cielab_bounds.specs.Cielab.{LabEnds, lab_at}
use Rattle.fix_bounds.specs.Ratios.{RatioEnds}
use Rattle.spectral_tables.specs.Spectrum.{spectrum_at}
use Rattle.spectral_tables.specs.WeightTable.{WeightTable}
use Rattle.tristimulus.specs.Ratios.{ratios_at}

-- X/Xn, Y/Yn and Z/Zn of the curve, at scale n
abbrev pub curve_ratios : WeightTable → List ℕ → ℕ → RatioEnds
curve_ratios weights curve n = ratios_at n (spectrum_at n curve) weights

-- L, a and b of the curve, at scale n
abbrev pub curve_lab : WeightTable → List ℕ → ℕ → LabEnds
curve_lab weights curve n = lab_at n (curve_ratios weights curve n)
