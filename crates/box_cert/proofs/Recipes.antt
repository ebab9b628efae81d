-- Recipes in a line.
use Rattle.std.proofs.Common.{◌≡◌, ℕ, zero, suc, ◌+◌, ◌-◌, ◌<◌, ◌≤◌, List, [], ◌∷◌, ◌++◌, length, take, get_or, refl, sym, ap, ◌∙◌, arith, append_assoc, decimal}
use Rattle.std.specs.Prelude.{Option, Some, None, option_map, option_and_then}
use Rattle.std.proofs.lemmas.List.{take_more, append-nil}
use Rattle.box_cert.specs.Lines.{cut_at, number_before, numbers_at, recipe_of}
use Rattle.box_cert.specs.Numbers.{number_of}
use Rattle.box_cert.specs.LineTexts.{numbers_text}

-- one more number after others, or the first one
numbers_first : (n : ℕ) → numbers_text ([] ++ n ∷ []) ≡ decimal n
numbers_first n = refl

numbers_more : (a : ℕ) (xs : List ℕ) (n : ℕ) → numbers_text ((a ∷ xs) ++ n ∷ []) ≡ numbers_text (a ∷ xs) ++ (32 ∷ decimal n)
numbers_more a [] n = refl
numbers_more a (b ∷ xs) n = ap (λ t. decimal a ++ (32 ∷ t)) (numbers_more b xs n) ∙ sym (append_assoc (decimal a) (32 ∷ numbers_text (b ∷ xs)) (32 ∷ decimal n))

behind_some : (xs : List ℕ) (n : ℕ) → 0 < length xs → numbers_text (xs ++ n ∷ []) ≡ numbers_text xs ++ (32 ∷ decimal n)
behind_some [] n h = absurd (omega arith)
behind_some (a ∷ xs) n h = numbers_more a xs n

pub put_first : (before now new xs : List ℕ) (i : ℕ) → i ≤ 0 → i < length xs → now ≡ before ++ numbers_text (take i xs) → new ≡ now ++ decimal (get_or xs i 0) → new ≡ before ++ numbers_text (take (i + 1) xs)
put_first before now new xs zero z l h e = e ∙ ap (λ t. t ++ decimal (get_or xs zero 0)) (h ∙ append-nil before) ∙ ap (λ t. before ++ numbers_text t) (sym (take_more xs zero 0 l))
put_first before now new xs (suc i) z l h e = absurd (omega arith)

pub put_next : (before now spaced new xs : List ℕ) (i : ℕ) → 0 < i → i < length xs → length (take i xs) ≡ i → now ≡ before ++ numbers_text (take i xs) → spaced ≡ now ++ 32 ∷ [] → new ≡ spaced ++ decimal (get_or xs i 0) → new ≡ before ++ numbers_text (take (i + 1) xs)
put_next before now spaced new xs i z l t h s e =
    e ∙ ap (λ t. t ++ decimal (get_or xs i 0)) (s ∙ ap (λ t. t ++ 32 ∷ []) h)
    ∙ append_assoc (before ++ numbers_text (take i xs)) (32 ∷ []) (decimal (get_or xs i 0))
    ∙ append_assoc before (numbers_text (take i xs)) (32 ∷ decimal (get_or xs i 0))
    ∙ ap (λ t. before ++ t) (sym (behind_some (take i xs) (get_or xs i 0) (omega arith)))
    ∙ ap (λ t. before ++ numbers_text t) (sym (take_more xs i 0 l))

-- a recipe of `dims` dyes, at least one, is read as `dims` numbers
pub recipe_at : (dims : ℕ) (line : List ℕ) → 1 ≤ dims → numbers_at (dims - 1) line ≡ recipe_of dims line
recipe_at zero line h = absurd (omega arith)
recipe_at (suc k) line h = let e : suc k - 1 ≡ k = omega arith in ap (λ n. numbers_at n line) e

abbrev pub with_prefix : List ℕ → Option (List ℕ) → Option (List ℕ)
with_prefix xs o = option_map (λ more. xs ++ more) o

prefix_more : (xs : List ℕ) (n : ℕ) (o : Option (List ℕ)) → with_prefix (xs ++ n ∷ []) o ≡ with_prefix xs (option_map (λ more. n ∷ more) o)
prefix_more xs n None = refl
prefix_more xs n (Some more) = ap Some (append_assoc xs (n ∷ []) more)

abbrev after_word : ℕ → List ℕ × List ℕ → Option (List ℕ)
after_word k r = number_before (number_of 0 4000 r.0) (numbers_at k r.1)

at_word : (k : ℕ) (rest : List ℕ) (o : Option (List ℕ × List ℕ)) → cut_at 32 rest ≡ o → numbers_at (suc k) rest ≡ option_and_then (after_word k) o
at_word k rest o e = ap (option_and_then (after_word k)) e

module _ (dims counter : ℕ) (steps rest : List ℕ) (all : Option (List ℕ)) (h : with_prefix steps (numbers_at (dims - counter) rest) ≡ all) where
  -- no space follows, though more numbers must: the line is no recipe
  pub no_word : counter < dims → cut_at 32 rest ≡ None → None ≡ all
  no_word l e =
      let s : dims - counter ≡ suc (dims - (counter + 1)) = omega arith in
      sym (ap (λ k. with_prefix steps (numbers_at k rest)) s ∙ ap (with_prefix steps) (at_word (dims - (counter + 1)) rest None e)) ∙ h

  -- the word is no number
  pub no_number : (word tail : List ℕ) → counter < dims → cut_at 32 rest ≡ Some (word, tail) → number_of 0 4000 word ≡ None → None ≡ all
  no_number word tail l e n =
      let s : dims - counter ≡ suc (dims - (counter + 1)) = omega arith in
      sym (ap (λ k. with_prefix steps (numbers_at k rest)) s ∙ ap (with_prefix steps) (at_word (dims - (counter + 1)) rest (Some (word, tail)) e)
      ∙ ap (λ o. with_prefix steps (number_before o (numbers_at (dims - (counter + 1)) tail))) n) ∙ h

  -- one more number was read
  pub one_number : (word tail : List ℕ) (n : ℕ) → counter < dims → cut_at 32 rest ≡ Some (word, tail) → number_of 0 4000 word ≡ Some n
      → with_prefix (steps ++ n ∷ []) (numbers_at (dims - (counter + 1)) tail) ≡ all
  one_number word tail n l e w =
      let s : dims - counter ≡ suc (dims - (counter + 1)) = omega arith in
      prefix_more steps n (numbers_at (dims - (counter + 1)) tail)
      ∙ sym (ap (λ k. with_prefix steps (numbers_at k rest)) s ∙ ap (with_prefix steps) (at_word (dims - (counter + 1)) rest (Some (word, tail)) e)
      ∙ ap (λ o. with_prefix steps (number_before o (numbers_at (dims - (counter + 1)) tail))) w) ∙ h

  -- the last number is all that is left of the line
  pub last_number : (o : Option ℕ) → dims ≤ counter → number_of 0 4000 rest ≡ o → with_prefix steps (option_map (λ n. n ∷ []) o) ≡ all
  last_number o l e =
      let s : dims - counter ≡ 0 = omega arith in
      sym (ap (λ k. with_prefix steps (numbers_at k rest)) s ∙ ap (λ p. with_prefix steps (option_map (λ n. n ∷ []) p)) e) ∙ h
