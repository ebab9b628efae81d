-- The keys of a table of a job: the value that each must have, or the first rule that it breaks.
use Rattle.std.specs.Prelude.{◌&&◌, ℕ, ℤ, pos, negsuc, Bool, nat_le, Option, Some, None, Result, Ok, true, List, if◌then◌else◌}
use Rattle.std.specs.List.{list_any}
use Rattle.std.specs.Str.{bytes_eq}
use Rattle.spectral_tables.specs.Name.{is_name}
use Rattle.toml.specs.Data.{Data, Members, no_members, member, get_member, as_integer, as_str}
use Rattle.toml.specs.View.{table_view}
use Rattle.job_keys.specs.declared.fault.JobFault.{JobFault}
use Rattle.job_keys.specs.declared.fault.JobRule.TheVariants.{MissingKey, OutOfRange, UnknownKey, WrongKind}
use Rattle.job_keys.specs.declared.fault.Position.{Position}
use Rattle.job_keys.specs.declared.section.Section.{Section}
use Rattle.job_keys.specs.Faults.{◌>>=◌, ensure, or_fault}
use Rattle.job_keys.specs.Texts.{is_file_text}

-- a table of a job, and its position
pub record Entries : Type 0 where
  pub position : Position
  pub members : Members

-- the table that the code holds
abbrev pub entries_of : Section → Entries
entries_of s = record { position = s.position; members = table_view s.table.now }

-- each key of the table is in the list
abbrev pub has_only : List (List ℕ) → Members → Bool
has_only keys no_members = true
has_only keys (member key value rest) = list_any (λ k. bytes_eq k key) keys && has_only keys rest

-- a check that the table has no other keys
abbrev pub only_keys : List (List ℕ) → Entries → Result (Unit {0}) JobFault
only_keys keys t = ensure t.position UnknownKey (has_only keys t.members)

-- the value of a key that must be there
abbrev pub required : List ℕ → Entries → Result Data JobFault
required key t = or_fault t.position MissingKey (get_member key t.members)

-- a whole number in a range
abbrev pub natural_in : ℕ → ℕ → ℤ → Option ℕ
natural_in low high (pos n) = if nat_le low n && nat_le n high then Some n else None
natural_in low high (negsuc n) = None

abbrev pub whole_in : ℕ → ℕ → Position → Data → Result ℕ JobFault
whole_in low high position value = do
  z ← or_fault position WrongKind (as_integer value)
  or_fault position OutOfRange (natural_in low high z)

-- the whole number of a required key
unfoldable pub whole : List ℕ → ℕ → ℕ → Entries → Result ℕ JobFault
whole key low high t = do
  value ← required key t
  whole_in low high t.position value

-- what is read of a value, or a default where the key is absent
abbrev pub or_else : {A : Type 0} → A → (Data → Result A JobFault) → Option Data → Result A JobFault
or_else absent read None = Ok absent
or_else absent read (Some value) = read value

-- the whole number of a key, or a default where the key is absent
unfoldable pub whole_or : List ℕ → ℕ → ℕ → ℕ → Entries → Result ℕ JobFault
whole_or key low high absent t = or_else absent (whole_in low high t.position) (get_member key t.members)

-- the whole number of a key, and None where the key is absent
unfoldable pub whole_if_any : List ℕ → ℕ → ℕ → Entries → Result (Option ℕ) JobFault
whole_if_any key low high t = or_else None (λ value. do
  n ← whole_in low high t.position value
  Ok (Some n)) (get_member key t.members)

-- a text that passes a test
abbrev pub text_in : (List ℕ → Bool) → Position → Data → Result (List ℕ) JobFault
text_in test position value = do
  text ← or_fault position WrongKind (as_str value)
  or_fault position OutOfRange (if test text then Some text else None)

-- the text of a required key, which must be a name: 1 to 32 bytes of printable ASCII without comma
-- and double quote
unfoldable pub name : List ℕ → Entries → Result (List ℕ) JobFault
name key t = do
  value ← required key t
  text_in is_name t.position value

-- the file name of a required key
unfoldable pub file_text : List ℕ → Entries → Result (List ℕ) JobFault
file_text key t = do
  value ← required key t
  text_in is_file_text t.position value
