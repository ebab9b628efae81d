-- Weights for the tristimulus values X, Y and Z (ASTM E308): three numbers for each wavelength, and
-- three for white.
use Rattle.std.specs.Prelude.{◌≡◌, ◌*◌, ◌<◌, ◌≤◌, ◌^◌, ℕ, ℤ, pos, ◌+ℤ◌, ◌<ℤ◌, List, [], ◌∷◌, All, length, slice_index_or, sum_by, unsigned_abs}
use Rattle.spectral_tables.specs.Grid.{IsWaveCount}

-- the numbers for X, Y and Z, in units of 0.00001
abbrev pub Triple : Type 0
Triple = List ℤ

-- the number that a triple has in a column: column 0 is X, 1 is Y, 2 is Z
abbrev pub at_column : ℕ → Triple → ℤ
at_column column triple = slice_index_or triple column (pos 0)

-- the sum of a column
unfoldable pub column_sum : ℕ → List Triple → ℤ
column_sum column [] = pos 0
column_sum column (triple ∷ triples) = at_column column triple +ℤ column_sum column triples

-- the sum of the magnitudes of a column's numbers
unfoldable pub magnitude_sum : ℕ → List Triple → ℕ
magnitude_sum column triples = sum_by (λ triple. unsigned_abs (at_column column triple)) triples

-- the sums of the three columns
abbrev pub total_of : List Triple → Triple
total_of triples = column_sum 0 triples ∷ column_sum 1 triples ∷ column_sum 2 triples ∷ []

-- three numbers of up to 1,000 in magnitude
abbrev pub IsTriple : Triple → Type 0
IsTriple triple = (length triple ≡ 3) × All (λ number. unsigned_abs number ≤ 10 ^ 8) triple

-- the weights of the wavelengths, and the white values
pub record WeightTable : Type 0 where
  pub weights : List Triple
  pub white : Triple

-- a column's white value is above 0, and at least half the sum of the magnitudes of its weights
pub record IsBalanced (w : WeightTable) (column : ℕ) : Type 0 where
  pub positive : pos 0 <ℤ at_column column w.white
  pub small : unsigned_abs (at_column column w.white) ≤ 10 ^ 8
  pub balanced : magnitude_sum column w.weights ≤ 2 * unsigned_abs (at_column column w.white)

-- the invariant of weights
pub record IsWeightTable (w : WeightTable) : Type 0 where
  pub count : IsWaveCount (length w.weights)
  pub triples : All (λ triple. length triple ≡ 3) w.weights
  pub white : length w.white ≡ 3
  pub columns : (column : ℕ) → column < 3 → IsBalanced w column

-- a list has an item for each wavelength of the weights, provided that these satisfy their
-- invariant
abbrev pub HasItemEachWave : {A : Type 0} → WeightTable → List A → Type 0
HasItemEachWave w items = IsWeightTable w → length items ≡ length w.weights
