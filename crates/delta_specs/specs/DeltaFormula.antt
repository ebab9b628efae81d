-- The formula of a colour difference, as one of two, at every scale n.
use Rattle.std.specs.Prelude.{ℕ}
use Rattle.interval_specs.specs.Ends.{Ends}
use Rattle.cielab_bounds.specs.Cielab.{LabEnds}
use Rattle.cmc_specs.specs.Cmc.{cmc_at}
use Rattle.delta_specs.specs.Cie94.{Application, cie94_at}

-- CMC(l:c), with the weights l and c in tenths, or CIE94
pub data DeltaFormula : Type 0 where
  by_cmc : (l10 c10 : ℕ) → DeltaFormula
  by_cie94 : Application → DeltaFormula

-- dE of a standard and a sample, in this order, by a formula
abbrev pub delta_at : DeltaFormula → ℕ → LabEnds → LabEnds → Ends
delta_at (by_cmc l10 c10) n p q = cmc_at l10 c10 n p q
delta_at (by_cie94 x) n p q = cie94_at x n p q
