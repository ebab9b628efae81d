-- A quantity that keeps enclosing stands at every finer scale: where it has a tolerance, a pass or
-- a fail at the base scale stays one.
use Rattle.std.proofs.Common.{ℕ, ◌*◌, ◌<◌, Option, Some, None, List}
use Rattle.interval_specs.specs.Ends.{Ends}
use Rattle.interval_specs.specs.Encloses.{Encloses}
use Rattle.metamerism.proofs.VerdictLaws.{verdict_stays}
use Rattle.run_core.specs.Answers.{StandsFiner}
use Rattle.fix_bounds.specs.Scales.{base_unit}

pub stands : (label : List ℕ) (at : ℕ → Ends) (tolerance : Option ℕ) → ((m : ℕ) → 0 < m → Encloses m (at base_unit) (at (m * base_unit))) → StandsFiner (record { label = label; at = at; tolerance = tolerance })
stands label at None h = record { encloses = h; verdict = λ m some. tt }
stands label at (Some t) h = record { encloses = h; verdict = λ m some. verdict_stays base_unit m t 1 (at base_unit) (at (m * base_unit)) some (h m some) }
