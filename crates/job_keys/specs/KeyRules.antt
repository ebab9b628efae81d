-- The rules of the keys of a table.
use Rattle.std.specs.Prelude.{◌&&◌, ◌||◌, ◌++◌, ℕ, ℤ, Bool, not, nat_le, true, false, Option, Some, None, option_and_then, is_some, List, [], ◌∷◌, length, map}
use Rattle.std.specs.List.{list_all}
use Rattle.spectral_tables.specs.Name.{is_name}
use Rattle.toml.specs.Data.{Data, Members, as_array, as_integer, as_str, as_table, get_member}
use Rattle.job_keys.specs.declared.fault.JobRule.TheVariants.{BadCount, MissingKey, OutOfRange, UnknownKey, WrongKind}
use Rattle.job_keys.specs.declared.fault.Position.{Position}
use Rattle.job_keys.specs.Arrays.{all_after}
use Rattle.job_keys.specs.Keys.{has_only, natural_in}
use Rattle.job_keys.specs.Rules.{Rule, rule_at}
use Rattle.job_keys.specs.Texts.{is_file_text}

-- what a value must be: of its type, with an allowed number of items, and in its range
pub record Kind : Type 0 where
  pub has_type : Data → Bool
  pub has_count : Data → Bool
  pub is_in_range : Data → Bool

-- the test passes, or there is no value
abbrev pub passes : {A : Type 0} → (A → Bool) → Option A → Bool
passes test None = true
passes test (Some x) = test x

abbrev pub is_natural_in : ℕ → ℕ → ℤ → Bool
is_natural_in low high z = is_some (natural_in low high z)

-- the items of an array, or None where the value is no array or an item is not of this kind
abbrev pub items_of : {A : Type 0} → (Data → Option A) → Data → Option (List A)
items_of kind value = option_and_then (all_after kind []) (as_array value)

abbrev pub is_count_in : {A : Type 0} → ℕ → ℕ → List A → Bool
is_count_in low high xs = nat_le low (length xs) && nat_le (length xs) high

-- ---- the kinds of values

-- a whole number in a range
abbrev pub a_whole : ℕ → ℕ → Kind
a_whole low high = record { has_type = λ v. is_some (as_integer v); has_count = λ v. true; is_in_range = λ v. passes (is_natural_in low high) (as_integer v) }

-- a text that passes a test
abbrev pub a_text : (List ℕ → Bool) → Kind
a_text test = record { has_type = λ v. is_some (as_str v); has_count = λ v. true; is_in_range = λ v. passes test (as_str v) }

abbrev pub a_name : Kind
a_name = a_text is_name

abbrev pub a_file : Kind
a_file = a_text is_file_text

abbrev pub a_table : Kind
a_table = record { has_type = λ v. is_some (as_table v); has_count = λ v. true; is_in_range = λ v. true }

-- an array of tables, whose number is in a range
abbrev pub some_tables : ℕ → ℕ → Kind
some_tables low high = record { has_type = λ v. is_some (items_of as_table v); has_count = λ v. passes (is_count_in low high) (items_of as_table v); is_in_range = λ v. true }

-- an array of whole numbers: from `few` to `many` of them, each from `low` to `high`
abbrev pub some_wholes : ℕ → ℕ → ℕ → ℕ → Kind
some_wholes few many low high = record {
  has_type = λ v. is_some (items_of as_integer v);
  has_count = λ v. passes (is_count_in few many) (items_of as_integer v);
  is_in_range = λ v. passes (list_all (is_natural_in low high)) (items_of as_integer v);
}

-- ---- the keys of a table

-- a key of a table, and whether it must be there
pub record Key : Type 0 where
  pub name : List ℕ
  pub needed : Bool
  pub kind : Kind

abbrev pub must : List ℕ → Kind → Key
must name kind = record { name = name; needed = true; kind = kind }

abbrev pub may : List ℕ → Kind → Key
may name kind = record { name = name; needed = false; kind = kind }

-- the rules of the value of a key, which may be absent
unfoldable pub value_rules : Position → Bool → Kind → Option Data → List Rule
value_rules position needed kind value =
    rule_at position MissingKey (not needed || is_some value)
    ∷ rule_at position WrongKind (passes kind.has_type value)
    ∷ rule_at position BadCount (passes kind.has_count value)
    ∷ rule_at position OutOfRange (passes kind.is_in_range value)
    ∷ []

-- the rules of the keys in order
unfoldable pub keys_rules : Position → List Key → Members → List Rule
keys_rules position [] m = []
keys_rules position (k ∷ keys) m = value_rules position k.needed k.kind (get_member k.name m) ++ keys_rules position keys m

-- the rules of a table: it has no other keys, and then those of its keys
unfoldable pub table_rules : Position → List Key → Members → List Rule
table_rules position keys members = rule_at position UnknownKey (has_only (map (λ k. k.name) keys) members) ∷ keys_rules position keys members

-- the rules of tables in order. Those of each may depend on the tables before it
abbrev pub in_turn : (List Members → Members → List Rule) → List Members → List Members → List Rule
in_turn rules before [] = []
in_turn rules before (members ∷ rest) = rules before members ++ in_turn rules (before ++ members ∷ []) rest

-- the rules of a table that may be absent
abbrev pub if_any : (Members → List Rule) → Option Members → List Rule
if_any rules None = []
if_any rules (Some members) = rules members
