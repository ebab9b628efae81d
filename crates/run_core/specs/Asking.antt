-- The files that a command asks for, and then its outcome.
use Rattle.std.specs.Prelude.{Result, Ok, Err}
use Rattle.run_core.specs.Answers.{Report}
use Rattle.run_core.specs.Outcome.{Fault, Outcome, outcome_of}
use Rattle.run_core.specs.Reading.{Reading, makes, then_reads}

infixl 10 ◌>>=◌
abbrev pub ◌>>=◌ : {A B : Type 0} → Result A Fault → (A → Result B Fault) → Result B Fault
(Ok x) >>= f = f x
(Err fault) >>= f = Err fault

abbrev pub Asking : Type 0
Asking = Reading Outcome

-- what is made of the files is judged when they have been read
abbrev pub reports_on : {X : Type 0} → Reading (Result X Fault) → (X → Result Report Fault) → Reading Outcome
reports_on reading judged = then_reads reading (λ made. makes (outcome_of (made >>= judged)))
