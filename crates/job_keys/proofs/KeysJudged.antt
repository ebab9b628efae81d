-- Each function that reads a key judges by the rules of the key.
use Rattle.std.proofs.Common.{◌≡◌, ◌∙◌, ◌++◌, ℕ, ℤ, pos, negsuc, Bool, true, false, Option, Some, None, Result, Ok, List, [], ◌∷◌, length, map, refl, ap, sym, append_assoc, append-nil}
use Rattle.std.specs.Prelude.{◌&&◌, nat_le, is_some, option_and_then, option_map, if◌then◌else◌}
use Rattle.std.specs.List.{list_all}
use Rattle.std.specs.Option.{unwrap_or}
use Rattle.spectral_tables.specs.Name.{is_name}
use Rattle.toml.specs.Data.{Data, Items, Members, as_array, as_integer, as_str, as_table, get_member}
use Rattle.job_keys.specs.declared.fault.JobFault.{JobFault}
use Rattle.job_keys.specs.declared.fault.JobRule.TheVariants.{BadCount, OutOfRange, WrongKind}
use Rattle.job_keys.specs.declared.fault.Position.{Position}
use Rattle.job_keys.specs.Arrays.{all_after, array_in, naturals_after, table_if_any, tables, tables_or_none, wholes}
use Rattle.job_keys.specs.Faults.{◌>>=◌, ◌>>◌, ensure, or_fault}
use Rattle.job_keys.specs.KeyRules.{a_file, a_name, a_table, a_whole, is_count_in, is_natural_in, items_of, passes, some_tables, some_wholes, value_rules}
use Rattle.job_keys.specs.KeyValues.{natural_of, table_at, tables_at, text_at, whole_at, whole_if_any_at, wholes_at}
use Rattle.job_keys.specs.Keys.{Entries, file_text, name, natural_in, text_in, whole, whole_if_any, whole_in, whole_or}
use Rattle.job_keys.specs.Rules.{rule_at}
use Rattle.job_keys.specs.Texts.{is_file_text}
use Rattle.job_keys.proofs.Judged.{judge, kind_rules, may_read, must_read}

-- ---- whole numbers

some_if : (position : Position) (b : Bool) (n : ℕ) → or_fault position OutOfRange (if b then Some n else None) ≡ judge (rule_at position OutOfRange (is_some (if b then Some n else None)) ∷ []) n
unfolding judge
some_if position true n = refl
some_if position false n = refl

natural_read : (position : Position) (low high : ℕ) (z : ℤ) → or_fault position OutOfRange (natural_in low high z) ≡ judge (rule_at position OutOfRange (is_natural_in low high z) ∷ []) (natural_of z)
unfolding judge
natural_read position low high (pos n) = some_if position (nat_le low n && nat_le n high) n
natural_read position low high (negsuc n) = refl

integer_read : (position : Position) (low high absent : ℕ) (o : Option ℤ)
    → (or_fault position WrongKind o >>= (λ z. or_fault position OutOfRange (natural_in low high z))) ≡ judge (kind_rules position (is_some o) true (passes (is_natural_in low high) o)) (unwrap_or (option_map natural_of o) absent)
unfolding judge
integer_read position low high absent None = refl
integer_read position low high absent (Some z) = natural_read position low high z

pub whole_is : (key : List ℕ) (low high : ℕ) (t : Entries) → whole key low high t ≡ judge (value_rules t.position true (a_whole low high) (get_member key t.members)) (whole_at key 0 t.members)
unfolding whole
whole_is key low high t =
    must_read t.position (a_whole low high) (whole_in low high t.position) (λ o. unwrap_or (option_map natural_of (option_and_then as_integer o)) 0)
    (λ v. integer_read t.position low high 0 (as_integer v)) (get_member key t.members)

pub whole_or_is : (key : List ℕ) (low high absent : ℕ) (t : Entries) → whole_or key low high absent t ≡ judge (value_rules t.position false (a_whole low high) (get_member key t.members)) (whole_at key absent t.members)
unfolding whole_or
whole_or_is key low high absent t =
    may_read t.position (a_whole low high) (whole_in low high t.position) (λ o. unwrap_or (option_map natural_of (option_and_then as_integer o)) absent)
    (λ v. integer_read t.position low high absent (as_integer v)) (get_member key t.members)

integer_if_any : (position : Position) (low high : ℕ) (o : Option ℤ)
    → ((or_fault position WrongKind o >>= (λ z. or_fault position OutOfRange (natural_in low high z))) >>= (λ n. Ok (Some n))) ≡ judge (kind_rules position (is_some o) true (passes (is_natural_in low high) o)) (option_map natural_of o)
unfolding judge
integer_if_any position low high None = refl
integer_if_any position low high (Some z) = ap (λ r. r >>= (λ n. Ok (Some n))) (natural_read position low high z) ∙ go (is_natural_in low high z) where
  go : (b : Bool) → (judge (rule_at position OutOfRange b ∷ []) (natural_of z) >>= (λ n. Ok (Some n))) ≡ judge (rule_at position OutOfRange b ∷ []) (Some (natural_of z))
  go true = refl
  go false = refl

pub whole_if_any_is : (key : List ℕ) (low high : ℕ) (t : Entries) → whole_if_any key low high t ≡ judge (value_rules t.position false (a_whole low high) (get_member key t.members)) (whole_if_any_at key t.members)
unfolding whole_if_any
whole_if_any_is key low high t =
    may_read t.position (a_whole low high) (λ v. whole_in low high t.position v >>= (λ n. Ok (Some n))) (λ o. option_map natural_of (option_and_then as_integer o))
    (λ v. integer_if_any t.position low high (as_integer v)) (get_member key t.members)

-- ---- texts

text_passes : (position : Position) (b : Bool) (text : List ℕ) → or_fault position OutOfRange (if b then Some text else None) ≡ judge (rule_at position OutOfRange b ∷ []) text
unfolding judge
text_passes position true text = refl
text_passes position false text = refl

text_read : (test : List ℕ → Bool) (position : Position) (o : Option (List ℕ))
    → (or_fault position WrongKind o >>= (λ text. or_fault position OutOfRange (if test text then Some text else None))) ≡ judge (kind_rules position (is_some o) true (passes test o)) (unwrap_or o [])
unfolding judge
text_read test position None = refl
text_read test position (Some text) = text_passes position (test text) text

pub name_is : (key : List ℕ) (t : Entries) → name key t ≡ judge (value_rules t.position true a_name (get_member key t.members)) (text_at key t.members)
unfolding name
name_is key t =
    must_read t.position a_name (text_in is_name t.position) (λ o. unwrap_or (option_and_then as_str o) []) (λ v. text_read is_name t.position (as_str v)) (get_member key t.members)

pub file_is : (key : List ℕ) (t : Entries) → file_text key t ≡ judge (value_rules t.position true a_file (get_member key t.members)) (text_at key t.members)
unfolding file_text
file_is key t =
    must_read t.position a_file (text_in is_file_text t.position) (λ o. unwrap_or (option_and_then as_str o) []) (λ v. text_read is_file_text t.position (as_str v)) (get_member key t.members)

-- ---- arrays

count_is : {A : Type 0} (position : Position) (b : Bool) (xs : List A) → (ensure position BadCount b >> Ok xs) ≡ judge (rule_at position BadCount b ∷ rule_at position OutOfRange true ∷ []) xs
unfolding judge
count_is position true xs = refl
count_is position false xs = refl

list_is : {A : Type 0} (position : Position) (low high : ℕ) (o : Option (List A))
    → (or_fault position WrongKind o >>= (λ xs. ensure position BadCount (nat_le low (length xs) && nat_le (length xs) high) >> Ok xs))
    ≡ judge (kind_rules position (is_some o) (passes (is_count_in low high) o) true) (unwrap_or o [])
unfolding judge
list_is position low high None = refl
list_is position low high (Some xs) = count_is position (is_count_in low high xs) xs

items_are : {A : Type 0} (kind : Data → Option A) (position : Position) (low high : ℕ) (o : Option Items)
    → (or_fault position WrongKind o >>= (λ items. or_fault position WrongKind (all_after kind [] items) >>= (λ xs. ensure position BadCount (nat_le low (length xs) && nat_le (length xs) high) >> Ok xs)))
    ≡ judge (kind_rules position (is_some (option_and_then (all_after kind []) o)) (passes (is_count_in low high) (option_and_then (all_after kind []) o)) true) (unwrap_or (option_and_then (all_after kind []) o) [])
unfolding judge
items_are kind position low high None = refl
items_are kind position low high (Some items) = list_is position low high (all_after kind [] items)

pub tables_is : (key : List ℕ) (low high : ℕ) (t : Entries) → tables key low high t ≡ judge (value_rules t.position true (some_tables low high) (get_member key t.members)) (tables_at key t.members)
unfolding tables
tables_is key low high t =
    must_read t.position (some_tables low high) (array_in as_table low high t.position) (λ o. unwrap_or (option_and_then (items_of as_table) o) [])
    (λ v. items_are as_table t.position low high (as_array v)) (get_member key t.members)

pub tables_or_none_is : (key : List ℕ) (high : ℕ) (t : Entries) → tables_or_none key high t ≡ judge (value_rules t.position false (some_tables 0 high) (get_member key t.members)) (tables_at key t.members)
unfolding tables_or_none
tables_or_none_is key high t =
    may_read t.position (some_tables 0 high) (array_in as_table 0 high t.position) (λ o. unwrap_or (option_and_then (items_of as_table) o) [])
    (λ v. items_are as_table t.position 0 high (as_array v)) (get_member key t.members)

-- ---- a table

table_read : (position : Position) (o : Option Members) → (or_fault position WrongKind o >>= (λ members. Ok (Some members))) ≡ judge (kind_rules position (is_some o) true true) o
unfolding judge
table_read position None = refl
table_read position (Some m) = refl

pub table_if_any_is : (key : List ℕ) (t : Entries) → table_if_any key t ≡ judge (value_rules t.position false a_table (get_member key t.members)) (table_at key t.members)
unfolding table_if_any
table_if_any_is key t =
    may_read t.position a_table (λ v. or_fault t.position WrongKind (as_table v) >>= (λ members. Ok (Some members))) (λ o. option_and_then as_table o)
    (λ v. table_read t.position (as_table v)) (get_member key t.members)

-- ---- arrays of whole numbers

natural_first : (low high : ℕ) (before : List ℕ) (n : ℕ) (b : Bool) (zs : List ℤ)
    → naturals_after low high (before ++ n ∷ []) zs ≡ (if list_all (is_natural_in low high) zs then Some (before ++ n ∷ map natural_of zs) else None)
    → option_and_then (λ m. naturals_after low high (before ++ m ∷ []) zs) (if b then Some n else None)
    ≡ (if is_some (if b then Some n else None) && list_all (is_natural_in low high) zs then Some (before ++ n ∷ map natural_of zs) else None)
natural_first low high before n true zs h = h
natural_first low high before n false zs h = refl

naturals_are : (low high : ℕ) (before : List ℕ) (zs : List ℤ) → naturals_after low high before zs ≡ (if list_all (is_natural_in low high) zs then Some (before ++ map natural_of zs) else None)
naturals_are low high before [] = ap Some (sym (append-nil before))
naturals_are low high before (pos n ∷ zs) =
    natural_first low high before n (nat_le low n && nat_le n high) zs
    (naturals_are low high (before ++ n ∷ []) zs ∙ ap (λ ns. if list_all (is_natural_in low high) zs then Some ns else None) (append_assoc before (n ∷ []) (map natural_of zs)))
naturals_are low high before (negsuc n ∷ zs) = refl

naturals_read : (position : Position) (low high : ℕ) (zs : List ℤ) → or_fault position OutOfRange (naturals_after low high [] zs) ≡ judge (rule_at position OutOfRange (list_all (is_natural_in low high) zs) ∷ []) (map natural_of zs)
unfolding judge
naturals_read position low high zs = ap (or_fault position OutOfRange) (naturals_are low high [] zs) ∙ go (list_all (is_natural_in low high) zs) where
  go : (b : Bool) → or_fault position OutOfRange (if b then Some (map natural_of zs) else None) ≡ judge (rule_at position OutOfRange b ∷ []) (map natural_of zs)
  go true = refl
  go false = refl

wholes_count : (position : Position) (low high : ℕ) (b : Bool) (zs : List ℤ)
    → ((ensure position BadCount b >> Ok zs) >>= (λ ns. or_fault position OutOfRange (naturals_after low high [] ns))) ≡ judge (rule_at position BadCount b ∷ rule_at position OutOfRange (list_all (is_natural_in low high) zs) ∷ []) (map natural_of zs)
unfolding judge
wholes_count position low high true zs = naturals_read position low high zs
wholes_count position low high false zs = refl

wholes_list : (position : Position) (few many low high : ℕ) (o : Option (List ℤ))
    → ((or_fault position WrongKind o >>= (λ xs. ensure position BadCount (nat_le few (length xs) && nat_le (length xs) many) >> Ok xs)) >>= (λ ns. or_fault position OutOfRange (naturals_after low high [] ns)))
    ≡ judge (kind_rules position (is_some o) (passes (is_count_in few many) o) (passes (list_all (is_natural_in low high)) o)) (map natural_of (unwrap_or o []))
unfolding judge
wholes_list position few many low high None = refl
wholes_list position few many low high (Some zs) = wholes_count position low high (is_count_in few many zs) zs

wholes_items : (position : Position) (few many low high : ℕ) (o : Option Items)
    → ((or_fault position WrongKind o >>= (λ items. or_fault position WrongKind (all_after as_integer [] items) >>= (λ xs. ensure position BadCount (nat_le few (length xs) && nat_le (length xs) many) >> Ok xs)))
    >>= (λ ns. or_fault position OutOfRange (naturals_after low high [] ns)))
    ≡ judge (kind_rules position (is_some (option_and_then (all_after as_integer []) o)) (passes (is_count_in few many) (option_and_then (all_after as_integer []) o)) (passes (list_all (is_natural_in low high)) (option_and_then (all_after as_integer []) o)))
    (map natural_of (unwrap_or (option_and_then (all_after as_integer []) o) []))
unfolding judge
wholes_items position few many low high None = refl
wholes_items position few many low high (Some items) = wholes_list position few many low high (all_after as_integer [] items)

pub wholes_are : (key : List ℕ) (few many low high : ℕ) (t : Entries) → wholes key few many low high t ≡ judge (value_rules t.position true (some_wholes few many low high) (get_member key t.members)) (wholes_at key t.members)
unfolding wholes
wholes_are key few many low high t =
    must_read t.position (some_wholes few many low high) (λ v. array_in as_integer few many t.position v >>= (λ zs. or_fault t.position OutOfRange (naturals_after low high [] zs)))
    (λ o. map natural_of (unwrap_or (option_and_then (items_of as_integer) o) [])) (λ v. wholes_items t.position few many low high (as_array v)) (get_member key t.members)
