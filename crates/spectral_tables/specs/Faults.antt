-- Reading a table step by step, up to its first fault.
use Rattle.std.specs.Prelude.{◌≡◌, ℕ, Bool, if◌then◌else◌, List, [], ◌∷◌, ◌++◌, Option, Some, None, Result, Ok, Err}
use Rattle.spectral_tables.specs.declared.fault.TableRule.{TableRule}
use Rattle.spectral_tables.specs.declared.fault.TableFault.{TableFault}
use Rattle.spectral_tables.specs.declared.fault.TableError.{TableError}
use Rattle.spectral_tables.specs.declared.fault.TableError.TheVariants as errors

-- a step, and then the next step with its value
infixl 10 ◌>>=◌
abbrev pub ◌>>=◌ : {A B : Type 0} → Result A TableFault → (A → Result B TableFault) → Result B TableFault
(Ok x) >>= next = next x
(Err e) >>= next = Err e

-- a test, and then the next step
infixl 10 ◌>>◌
abbrev pub ◌>>◌ : {B : Type 0} → Result (Unit {0}) TableFault → Result B TableFault → Result B TableFault
(Ok x) >> next = next
(Err e) >> next = Err e

-- the value, where a test found no fault
abbrev pub unless_fault : {A : Type 0} → Result (Unit {0}) TableFault → A → Result A TableFault
unless_fault test value = test >> Ok value

-- the fault at a row and a column
abbrev pub fault : ℕ → ℕ → TableRule → TableFault
fault row column rule = record { row = row; column = column; rule = rule }

-- success where a test holds, and else the fault
abbrev pub ensure : ℕ → ℕ → TableRule → Bool → Result (Unit {0}) TableFault
ensure row column rule holds = if holds then Ok tt else Err (fault row column rule)

-- the value where there is one, and else the fault
abbrev pub or_fault : {A : Type 0} → ℕ → ℕ → TableRule → Option A → Result A TableFault
or_fault row column rule (Some x) = Ok x
or_fault row column rule None = Err (fault row column rule)

-- The items read in turn, up to the first fault. The reader of an item is passed the values of the
-- items before it.
abbrev pub each : {A B : Type 0} → (List A → B → Result A TableFault) → List A → List B → Result (List A) TableFault
each read before [] = Ok before
each read before (item ∷ items) = do
  value ← read before item
  each read (before ++ value ∷ []) items

-- a call that failed agrees with what the definition reads: the same fault, or memory ran out
abbrev pub Fails : {Y : Type 0} → TableError → Result Y TableFault → Type 0
Fails errors.Memory read = Unit {0}
Fails (errors.Fault f) read = read ≡ Err f

-- the result of a call, mapped by view, is what the definition reads, unless memory ran out
abbrev pub Gives : {X Y : Type 0} → (X → Y) → Result X TableError → Result Y TableFault → Type 0
Gives view (Ok x) read = read ≡ Ok (view x)
Gives view (Err e) read = Fails e read
