-- Reading a job rule by rule, up to the first one that is broken.
use Rattle.std.specs.Prelude.{◌≡◌, Bool, Option, Some, None, Result, Ok, Err, if◌then◌else◌}
use Rattle.job_keys.specs.declared.fault.JobError.{JobError}
use Rattle.job_keys.specs.declared.fault.JobError.TheVariants as errors
use Rattle.job_keys.specs.declared.fault.JobFault.{JobFault}
use Rattle.job_keys.specs.declared.fault.JobRule.{JobRule}
use Rattle.job_keys.specs.declared.fault.Position.{Position}

infixl 10 ◌>>=◌
abbrev pub ◌>>=◌ : {A B : Type 0} → Result A JobFault → (A → Result B JobFault) → Result B JobFault
(Ok x) >>= f = f x
(Err fault) >>= f = Err fault

infixl 10 ◌>>◌
abbrev pub ◌>>◌ : {B : Type 0} → Result (Unit {0}) JobFault → Result B JobFault → Result B JobFault
(Ok x) >> next = next
(Err fault) >> next = Err fault

-- the fault of a rule that is broken at a position
abbrev pub fault_at : Position → JobRule → JobFault
fault_at position rule = record { part = position.part; item = position.item; sub = position.sub; rule = rule }

-- the value, or the fault of a rule where there is none
abbrev pub or_fault : {A : Type 0} → Position → JobRule → Option A → Result A JobFault
or_fault position rule None = Err (fault_at position rule)
or_fault position rule (Some x) = Ok x

-- a check of a rule: its fault where it does not hold
abbrev pub ensure : Position → JobRule → Bool → Result (Unit {0}) JobFault
ensure position rule holds = if holds then Ok tt else Err (fault_at position rule)

-- a call that failed agrees with what the definition reads: the same fault, or memory ran out
abbrev pub Fails : {Y : Type 0} → JobError → Result Y JobFault → Type 0
Fails errors.Memory read = Unit {0}
Fails (errors.Fault fault) read = read ≡ Err fault

-- the result of a call, mapped by view, is what the definition reads, unless memory ran out
abbrev pub Gives : {X Y : Type 0} → (X → Y) → Result X JobError → Result Y JobFault → Type 0
Gives view (Ok x) read = read ≡ Ok (view x)
Gives view (Err error) read = Fails error read
