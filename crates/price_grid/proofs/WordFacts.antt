-- The parts of a word.
use Rattle.std.proofs.Common.{◌≡◌, ◌+◌, ◌<◌, ◌≤◌, ℕ, zero, suc, List, [], ◌∷◌, ◌++◌, append_assoc, Bool, true, false, cond, nat_lt, length, get_or, take, drop, add-one, refl, sym, ap, ◌∙◌, subst, arith}
use Rattle.std.specs.Prelude.{Option, Some, None, option_map, unwrap_or}
use Rattle.std.specs.List.{position, position_or_len, slice_split}
use Rattle.std.proofs.lemmas.Bool.Decides.{nat_tests}
use Rattle.std.proofs.lemmas.List.Splits.{length-slice_split, slice_split_first, slice_split_none}
use Rattle.std.proofs.lemmas.List.Sums.{fails_before_first}
use Rattle.std.proofs.Math.Seq.{drop-cons}
use Rattle.std.proofs.lemmas.List.{drop_all}
use Rattle.std.proofs.Math.ListN.{length-take}
use Rattle.price_grid.specs.declared.dye_cost.DyeCost.{DyeCost}
use Rattle.price_grid.specs.Words.{is_comma, remaining_parts, steps_of_texts}
use Rattle.price_grid.specs.Grid.{IsRecipe}
use Rattle.price_grid.proofs.GridFacts.{no_dye}

below : (a b : ℕ) → nat_lt a b ≡ true → a < b
below a b h = grind (arith, nat_tests)

at_least : (a b : ℕ) → nat_lt a b ≡ false → b ≤ a
at_least a b h = grind (arith, nat_tests)

-- the first part ends at the first comma
pub parts_at : (text : List ℕ) (at : ℕ) → position is_comma text ≡ Some at → slice_split is_comma text ≡ take at text ∷ slice_split is_comma (drop (at + 1) text)
parts_at text at h = go (nat_lt first (length text)) refl h where
  first : ℕ
  first = position_or_len is_comma text

  go : (b : Bool) → nat_lt first (length text) ≡ b → cond b (Some first) None ≡ Some at
      → slice_split is_comma text ≡ take at text ∷ slice_split is_comma (drop (at + 1) text)
  go true e s =
      let same : first ≡ at = ap (λ o. unwrap_or o 0) s in
      subst (λ k. slice_split is_comma text ≡ take k text ∷ slice_split is_comma (drop (k + 1) text)) same (slice_split_first is_comma text 0 (below first (length text) e))
  go false e s = cc

-- with no comma the text is the only part
pub one_part : (text : List ℕ) → position is_comma text ≡ None → slice_split is_comma text ≡ text ∷ []
one_part text h = go (nat_lt first (length text)) refl h where
  first : ℕ
  first = position_or_len is_comma text

  go : (b : Bool) → nat_lt first (length text) ≡ b → cond b (Some first) None ≡ None → slice_split is_comma text ≡ text ∷ []
  go true e s = cc
  go false e s = slice_split_none is_comma text (λ k d l. fails_before_first is_comma text k d (omega (arith, at_least first (length text) e)))

-- a dye with no text left for it
pub texts-end : (dyes : List DyeCost) (i : ℕ) → i < length dyes → steps_of_texts (drop i dyes) [] ≡ None
texts-end dyes i l = rw (drop-cons dyes i no_dye l) refl

-- a text with no dye left for it
pub texts-over : (dyes : List DyeCost) (i : ℕ) (text : List ℕ) → length dyes ≤ i → steps_of_texts (drop i dyes) (slice_split is_comma text) ≡ None
texts-over dyes i text l = rw (drop_all i dyes l) (some (slice_split is_comma text) (omega (arith, length-slice_split is_comma text))) where
  some : (parts : List (List ℕ)) → 0 < length parts → steps_of_texts [] parts ≡ None
  some [] h = absurd (omega arith)
  some (part ∷ parts) h = refl

-- one more number, at the end of those read so far or at the beginning of those that follow
pub one-more : (xs : List ℕ) (n : ℕ) (o : Option (List ℕ)) → option_map (λ more. (xs ++ n ∷ []) ++ more) o ≡ option_map (λ more. xs ++ more) (option_map (λ more. n ∷ more) o)
one-more xs n None = refl
one-more xs n (Some more) = ap Some (append_assoc xs (n ∷ []) more)

-- the numbers read so far, followed by those that the texts from some dye on spell
abbrev read : List ℕ → List DyeCost → List (List ℕ) → Option (List ℕ)
read xs dyes texts = option_map (λ more. xs ++ more) (steps_of_texts dyes texts)

-- the word ended before the dyes did
pub ended : (xs : List ℕ) (dyes : List DyeCost) (i : ℕ) (rest all : Option (List ℕ)) → i < length dyes → rest ≡ None
    → option_map (λ more. xs ++ more) (steps_of_texts (drop i dyes) (remaining_parts rest)) ≡ all → None ≡ all
ended xs dyes i rest all l e h =
    sym (ap (λ r. read xs (drop i dyes) (remaining_parts r)) e ∙ ap (option_map (λ more. xs ++ more)) (texts-end dyes i l)) ∙ h

-- the dyes ended before the word did
pub over : (xs : List ℕ) (dyes : List DyeCost) (i : ℕ) (rest all : Option (List ℕ)) (text : List ℕ) → length dyes ≤ i → rest ≡ Some text
    → option_map (λ more. xs ++ more) (steps_of_texts (drop i dyes) (remaining_parts rest)) ≡ all → None ≡ all
over xs dyes i rest all text l e h =
    sym (ap (λ r. read xs (drop i dyes) (remaining_parts r)) e ∙ ap (option_map (λ more. xs ++ more)) (texts-over dyes i text l)) ∙ h

-- the number of one more dye was read
pub goes-on : (xs : List ℕ) (n : ℕ) (dyes : List DyeCost) (i : ℕ) (rest all : Option (List ℕ)) (text : List ℕ) (after : List (List ℕ)) → i < length dyes → rest ≡ Some text
    → ((more : List DyeCost) → steps_of_texts (get_or dyes i no_dye ∷ more) (slice_split is_comma text) ≡ option_map (λ ns. n ∷ ns) (steps_of_texts more after))
    → option_map (λ more. xs ++ more) (steps_of_texts (drop i dyes) (remaining_parts rest)) ≡ all
    → option_map (λ more. (xs ++ n ∷ []) ++ more) (steps_of_texts (drop (i + 1) dyes) after) ≡ all
goes-on xs n dyes i rest all text after l e s h =
    let here : steps_of_texts (drop i dyes) (slice_split is_comma text) ≡ option_map (λ ns. n ∷ ns) (steps_of_texts (drop (i + 1) dyes) after) =
    rw (drop-cons dyes i no_dye l, add-one) (s (drop (suc i) dyes)) in
    one-more xs n _ ∙ ap (option_map (λ more. xs ++ more)) (sym here) ∙ sym (ap (λ r. read xs (drop i dyes) (remaining_parts r)) e) ∙ h

-- a recipe of the first dyes, with a number for the next dye added
pushed : (dyes : List DyeCost) (i : ℕ) (xs : List ℕ) (n : ℕ) → i < length dyes → IsRecipe (take i dyes) xs → n ≤ (get_or dyes i no_dye).most → IsRecipe (take (suc i) dyes) (xs ++ n ∷ [])
pushed [] i xs n l r h = absurd (omega arith)
pushed (dye ∷ dyes) zero [] n l r h = (h, tt)
pushed (dye ∷ dyes) zero (x ∷ xs) n l r h = absurd r
pushed (dye ∷ dyes) (suc i) [] n l r h = absurd r
pushed (dye ∷ dyes) (suc i) (x ∷ xs) n l r h = (r.0, pushed dyes i xs n (omega arith) r.1 h)

pub recipe-push : (dyes : List DyeCost) (i : ℕ) (xs : List ℕ) (n : ℕ) → i < length dyes → IsRecipe (take i dyes) xs → n ≤ (get_or dyes i no_dye).most → IsRecipe (take (i + 1) dyes) (xs ++ n ∷ [])
recipe-push dyes i xs n l r h = rw add-one (pushed dyes i xs n l r h)

pub taken : (dyes : List DyeCost) (i : ℕ) → length (take i dyes) ≤ i
taken dyes i = omega (arith, length-take i dyes)
