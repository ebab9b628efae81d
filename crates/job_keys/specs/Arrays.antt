-- The arrays of a job, and how their items are read in order.
use Rattle.std.specs.Prelude.{◌++◌, ◌&&◌, ℕ, ℤ, nat_le, Option, Some, None, option_and_then, Result, Ok, List, [], ◌∷◌, length}
use Rattle.toml.specs.Data.{Data, Items, Members, no_items, item, get_member, as_array, as_integer, as_table}
use Rattle.job_keys.specs.declared.fault.JobFault.{JobFault}
use Rattle.job_keys.specs.declared.fault.JobRule.TheVariants.{BadCount, OutOfRange, WrongKind}
use Rattle.job_keys.specs.declared.fault.Position.{Position}
use Rattle.job_keys.specs.Faults.{◌>>=◌, ◌>>◌, ensure, or_fault}
use Rattle.job_keys.specs.Keys.{Entries, natural_in, or_else, required}

-- the items read so far, followed by the rest as they are read, and None where one of the rest is
-- not of the kind
abbrev pub all_after : {A : Type 0} → (Data → Option A) → List A → Items → Option (List A)
all_after kind before no_items = Some before
all_after kind before (item value rest) = option_and_then (λ x. all_after kind (before ++ x ∷ []) rest) (kind value)

-- an array of items of a kind, whose number is in a range
abbrev pub array_in : {A : Type 0} → (Data → Option A) → ℕ → ℕ → Position → Data → Result (List A) JobFault
array_in kind low high position value = do
  items ← or_fault position WrongKind (as_array value)
  xs ← or_fault position WrongKind (all_after kind [] items)
  ensure position BadCount (nat_le low (length xs) && nat_le (length xs) high)
  Ok xs

-- the tables of a required key
unfoldable pub tables : List ℕ → ℕ → ℕ → Entries → Result (List Members) JobFault
tables key low high t = do
  value ← required key t
  array_in as_table low high t.position value

-- the tables of a key, and none where the key is absent
unfoldable pub tables_or_none : List ℕ → ℕ → Entries → Result (List Members) JobFault
tables_or_none key high t = or_else [] (array_in as_table 0 high t.position) (get_member key t.members)

-- the table of a key that may be absent
unfoldable pub table_if_any : List ℕ → Entries → Result (Option Members) JobFault
table_if_any key t = or_else None (λ value. do
  members ← or_fault t.position WrongKind (as_table value)
  Ok (Some members)) (get_member key t.members)

-- the numbers read so far, followed by the rest, and None where one of the rest is not in the range
abbrev pub naturals_after : ℕ → ℕ → List ℕ → List ℤ → Option (List ℕ)
naturals_after low high before [] = Some before
naturals_after low high before (z ∷ zs) = option_and_then (λ n. naturals_after low high (before ++ n ∷ []) zs) (natural_in low high z)

-- the numbers of a required key: from `few` to `many` of them, each from `low` to `high`
unfoldable pub wholes : List ℕ → ℕ → ℕ → ℕ → ℕ → Entries → Result (List ℕ) JobFault
wholes key few many low high t = do
  value ← required key t
  numbers ← array_in as_integer few many t.position value
  or_fault t.position OutOfRange (naturals_after low high [] numbers)

-- reads the items in order. How each is read may depend on those that were read before it
abbrev pub each : {A B : Type 0} → (List A → B → Result A JobFault) → List A → List B → Result (List A) JobFault
each read before [] = Ok before
each read before (x ∷ xs) = do
  y ← read before x
  each read (before ++ y ∷ []) xs

-- reads a value, if it is there
abbrev pub if_there : {A B : Type 0} → (B → Result A JobFault) → Option B → Result (Option A) JobFault
if_there read None = Ok None
if_there read (Some x) = do
  y ← read x
  Ok (Some y)
