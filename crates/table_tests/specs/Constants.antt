-- A rule of columns for files of constants.
use Rattle.std.specs.Prelude.{ℕ, ◌&&◌, ◌||◌, ◌==◌, List, if◌then◌else◌, codes}
use Rattle.std.specs.List.{ends_with}
use Rattle.spectral_tables.specs.Name.{is_name}
use Rattle.spectral_tables.specs.Rule.{Rule}

-- names with `.K` or `.S` at their end, and numbers from 0, or 0.0001 under a name with `.S`, to 1000
abbrev pub constant_rule : Rule
constant_rule = record {
  is_column = λ name. is_name name && (ends_with ◌==◌ name (codes ".K") || ends_with ◌==◌ name (codes ".S"));
  range_of = λ name. record { least = if ends_with ◌==◌ name (codes ".S") then 1 else 0; most = 10000000 };
}
