-- The values of the keys of a table, with a default where a key has no such value.
use Rattle.std.specs.Prelude.{ℕ, ℤ, pos, negsuc, Option, option_and_then, option_map, List, [], map}
use Rattle.std.specs.Option.{unwrap_or}
use Rattle.toml.specs.Data.{Members, as_integer, as_str, as_table, get_member}
use Rattle.job_keys.specs.KeyRules.{items_of}

abbrev pub natural_of : ℤ → ℕ
natural_of (pos n) = n
natural_of (negsuc n) = 0

abbrev pub text_at : List ℕ → Members → List ℕ
text_at key members = unwrap_or (option_and_then as_str (get_member key members)) []

abbrev pub whole_if_any_at : List ℕ → Members → Option ℕ
whole_if_any_at key members = option_map natural_of (option_and_then as_integer (get_member key members))

abbrev pub whole_at : List ℕ → ℕ → Members → ℕ
whole_at key absent members = unwrap_or (whole_if_any_at key members) absent

abbrev pub wholes_at : List ℕ → Members → List ℕ
wholes_at key members = map natural_of (unwrap_or (option_and_then (items_of as_integer) (get_member key members)) [])

abbrev pub tables_at : List ℕ → Members → List Members
tables_at key members = unwrap_or (option_and_then (items_of as_table) (get_member key members)) []

abbrev pub table_at : List ℕ → Members → Option Members
table_at key members = option_and_then as_table (get_member key members)
