-- What the words of a command line plan: the files that they ask for, and the file that is written.
use Rattle.std.specs.Prelude.{ℕ, List, Option, Some, None, option_map}
use Rattle.run_core.specs.Asking.{Asking}
use Rattle.run_core.specs.Outcome.{usage}
use Rattle.run_core.specs.Reading.{makes}

-- the files that a command asks for, with its outcome, and the name that it writes a file under,
-- where it writes one
pub record Plan : Type 0 where
  pub asking : Asking
  pub writes : Option (List ℕ)

-- what is asked for by words that may form no command
abbrev pub asking_for : Option Plan → Asking
asking_for None = makes usage
asking_for (Some plan) = plan.asking

abbrev pub written_by : Option Plan → Option (List ℕ)
written_by None = None
written_by (Some plan) = plan.writes

-- the name of a file with its bytes
abbrev pub name_of : Option (List ℕ × List ℕ) → Option (List ℕ)
name_of written = option_map (λ file. file.0) written
