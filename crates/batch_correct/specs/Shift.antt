-- The limits of a recipe that is added to another bath.
use Rattle.std.specs.Prelude.{ℕ, List}
use Rattle.price_grid.specs.Limits.{LimitsView}

-- the same limits, for a bath with these steps of each dye
abbrev pub with_new_bath : LimitsView → List ℕ → LimitsView
with_new_bath limits bath = record limits { bath = bath }
