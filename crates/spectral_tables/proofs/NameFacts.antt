-- The names of a header that was read differ.
use Rattle.std.proofs.Common.{◌≡◌, ◌<◌, ◌+◌, ◌||◌, ℕ, zero, suc, Bool, true, false, not, List, [], ◌∷◌, ◌++◌, length, get_or, take, map, Bor, Ok, refl, ap, subst, ◌∙◌, arith}
use Rattle.std.specs.List.{IsDistinct, AllByRecursion, list_any}
use Rattle.std.specs.Str.{bytes_eq}
use Rattle.std.specs.Cmp.Lexicographic.{nat_list_eq_equiv}
use Rattle.std.proofs.lemmas.Map.Keys.{IsDistinct-push}
use Rattle.spectral_tables.specs.declared.fault.TableRule.TheVariants.{DoubleName}
use Rattle.spectral_tables.specs.Faults.{◌>>=◌, ◌>>◌, ensure, each}
use Rattle.spectral_tables.specs.Columns.{next_different}

-- a test of references is that of the values that they refer to
pub list_any_now : (name : List ℕ) (names : List (Bor (List ℕ))) → list_any (λ n. bytes_eq name n.now) names ≡ list_any (bytes_eq name) (map (λ n. n.now) names)
list_any_now name [] = refl
list_any_now name (n ∷ ns) = ap (λ b. bytes_eq name n.now || b) (list_any_now name ns)

-- names that were compared in turn with those before them are distinct
distinct-each : (before items names : List (List ℕ)) → IsDistinct bytes_eq before → each next_different before items ≡ Ok names → IsDistinct bytes_eq names
distinct-each before [] names distinct e = let same : before ≡ names = cc in subst (IsDistinct bytes_eq) same distinct
distinct-each before (item ∷ items) names distinct e =
    by (list_any (bytes_eq item) before) refl (distinct-each (before ++ item ∷ []) items names) e
  where
    by : (b : Bool) → list_any (bytes_eq item) before ≡ b → (IsDistinct bytes_eq (before ++ item ∷ []) → each next_different (before ++ item ∷ []) items ≡ Ok names → IsDistinct bytes_eq names)
        → ((ensure 1 (length before + 2) DoubleName (not b) >> Ok item) >>= λ value. each next_different (before ++ value ∷ []) items) ≡ Ok names → IsDistinct bytes_eq names
    by true is rest e = absurd cc
    by false is rest e = rest (IsDistinct-push nat_list_eq_equiv before item distinct is) e

pub distinct-names : (items names : List (List ℕ)) → each next_different [] items ≡ Ok names → IsDistinct bytes_eq names
unfolding IsDistinct
distinct-names items names e = distinct-each [] items names tt e

at_index : (P : List ℕ → Type 0) (xs : List (List ℕ)) (i : ℕ) (d : List ℕ) → i < length xs → AllByRecursion P xs → P (get_or xs i d)
at_index P [] i d lt h = absurd (omega arith)
at_index P (x ∷ xs) zero d lt h = h.0
at_index P (x ∷ xs) (suc i) d lt h = at_index P xs i d (omega arith) h.1

-- a name among distinct ones differs from those before it
pub differs_from_earlier : (names : List (List ℕ)) (i : ℕ) (d : List ℕ) → i < length names → IsDistinct bytes_eq names → list_any (bytes_eq (get_or names i d)) (take i names) ≡ false
unfolding IsDistinct
differs_from_earlier [] i d lt distinct = absurd (omega arith)
differs_from_earlier (n ∷ ns) zero d lt distinct = refl
differs_from_earlier (n ∷ ns) (suc i) d lt distinct =
    let later : bytes_eq n (get_or ns i d) ≡ false = at_index (λ y. bytes_eq n y ≡ false) ns i d (omega arith) distinct.0 in
    let first : bytes_eq (get_or ns i d) n ≡ false = nat_list_eq_equiv.symm (get_or ns i d) n ∙ later in
    rw first (differs_from_earlier ns i d (omega arith) distinct.1)
