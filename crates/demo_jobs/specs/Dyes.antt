-- The dyes of a job, drawn at random, and the hidden recipe that makes the standard.
use Rattle.std.specs.Prelude.{ℕ, ◌+◌, ◌*◌, ◌/◌, ◌%◌, ◌==◌, ◌≤◌, List, map, if◌then◌else◌}
use Rattle.std.specs.List.{range_with_len}
use Rattle.demo_jobs.specs.declared.dyes.DrawnDye.{DrawnDye}
use Rattle.demo_jobs.specs.Draws.{draw}

-- the dye at an index: its centre, height, price and fee are drawn in this order
abbrev pub drawn_dye : List ℕ → ℕ → DrawnDye
drawn_dye draws index = record {
  number = index + 1;
  centre = 5 * index + 2 + draw draws (4 * index) 4;
  height = 200 + draw draws (4 * index + 1) 200;
  price = 20 + draw draws (4 * index + 2) 80;
  fee = draw draws (4 * index + 3) 2000;
}

-- the six dyes
unfoldable pub drawn_dyes : List ℕ → List DrawnDye
drawn_dyes draws = map (drawn_dye draws) (range_with_len 0 6)

-- the steps of the dye at an index in the hidden recipe: of dyes 1 and 2, of 3 and 4, and of 5 and
-- 6 one is drawn and has 20 to 119 steps, and the other has none
abbrev pub hidden_steps : List ℕ → ℕ → ℕ
hidden_steps draws index =
    if draw draws (24 + index / 2 * 2) 2 == index % 2 then 20 + draw draws (24 + index / 2 * 2 + 1) 100 else 0

-- the recipe that makes the standard
unfoldable pub hidden_recipe : List ℕ → List ℕ
hidden_recipe draws = map (hidden_steps draws) (range_with_len 0 6)

-- the ranges of a drawn dye
pub record IsDrawn (dye : DrawnDye) : Type 0 where
  pub number : dye.number ≤ 6
  pub height : dye.height ≤ 399
  pub price : dye.price ≤ 99
  pub fee : dye.fee ≤ 1999
