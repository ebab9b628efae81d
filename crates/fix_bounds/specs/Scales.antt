-- The scale of everything that is printed or decided.
use Rattle.std.specs.Prelude.{ℕ, ◌^◌}

-- the base scale: an end counts parts of 1 / 10^12
abbrev pub base_unit : ℕ
base_unit = 10 ^ 12
