-- The answer is the first recipe that is admitted and passes, and the first of those in their
-- order.
use Rattle.std.proofs.Common.{◌≡◌, ◌+◌, ◌-◌, ◌<◌, ◌≤◌, ℕ, zero, suc, List, [], ◌∷◌, ◌++◌, Bool, true, false, map, if◌then◌else◌, refl, sym, ap, subst, ◌∙◌, ◌⊎◌, inl, inr, arith}
use Rattle.std.specs.Prelude.{Option, Some, None, cond}
use Rattle.std.specs.List.{filter, slice_get}
use Rattle.std.proofs.lemmas.Bool.{cases_lt, false≢true}
use Rattle.price_grid.specs.Grid.{IsUpTo}
use Rattle.box_specs.specs.Answer.{AnswerIsFirst, FirstIsAnswer, IsAnswer, all_recipes, answer_of, each_before, earlier, first_match, is_match, is_pass, numbers_from, recipes_between}
use Rattle.std.specs.Cmp.{tied_itself, upto}
use Rattle.std.specs.Ordering.{is_gt, is_lt}
use Rattle.std.specs.declared.cmp.Ordering.{Ordering}
use Rattle.std.specs.declared.cmp.Ordering.TheVariants.{Equal, Greater, Less}
use Rattle.price_grid.specs.Order.{KeyView, key_cmp}
use Rattle.price_grid.proofs.CostLaws.{keys_are_ordered}
use Rattle.box_specs.specs.Landscape.{Grade, Land, fails, is_before, key_of, passes, unsure}
use Rattle.box_specs.specs.Order.{in_order, put_in}
use Rattle.box_specs.proofs.Keys.{lt_turned, tied_keys}
use Rattle.box_specs.proofs.Tests.{by}

-- only one verdict is that a recipe passes
pub pass_of : (g : Grade) → is_pass g ≡ true → g ≡ passes
pass_of passes h = refl
pass_of fails h = absurd (false≢true h)
pass_of unsure h = absurd (false≢true h)

-- an item of a list
abbrev pub IsIn : List ℕ → List (List ℕ) → Type 0
IsIn r [] = ⊥
IsIn r (s ∷ rest) = (s ≡ r) ⊎ IsIn r rest

in_left : (r : List ℕ) (xs ys : List (List ℕ)) → IsIn r xs → IsIn r (xs ++ ys)
in_left r [] ys h = absurd h
in_left r (x ∷ xs) ys (inl e) = inl e
in_left r (x ∷ xs) ys (inr h) = inr (in_left r xs ys h)

in_right : (r : List ℕ) (xs ys : List (List ℕ)) → IsIn r ys → IsIn r (xs ++ ys)
in_right r [] ys h = h
in_right r (x ∷ xs) ys h = inr (in_right r xs ys h)

in_map : (n : ℕ) (r : List ℕ) (xs : List (List ℕ)) → IsIn r xs → IsIn (n ∷ r) (map (λ steps. n ∷ steps) xs)
in_map n r [] h = absurd h
in_map n r (x ∷ xs) (inl e) = inl (ap (λ steps. n ∷ steps) e)
in_map n r (x ∷ xs) (inr h) = inr (in_map n r xs h)

-- a list that begins with a number of the range, and goes on as an item of `rest`, is in the list
in_each : (n first count : ℕ) (r : List ℕ) (rest : List (List ℕ)) → first ≤ n → n < first + count → IsIn r rest → IsIn (n ∷ r) (each_before (numbers_from first count) rest)
in_each n first zero r rest h k i = absurd (omega arith)
in_each n first (suc count) r rest h k i = elim (cases_lt first n) as (λ _. IsIn (n ∷ r) (map (λ steps. first ∷ steps) rest ++ each_before (numbers_from (first + 1) count) rest)) [
  | inl lt ↦ in_right (n ∷ r) (map (λ steps. first ∷ steps) rest) (each_before (numbers_from (first + 1) count) rest) (in_each n (first + 1) count r rest (omega arith) (omega arith) i)
  | inr ge ↦
      let same : first ≡ n = omega (arith, h, ge) in
      in_left (n ∷ r) (map (λ steps. first ∷ steps) rest) (each_before (numbers_from (first + 1) count) rest) (subst (λ m. IsIn (m ∷ r) (map (λ steps. first ∷ steps) rest)) same (in_map first r rest i))
]

-- every recipe of the box is in the plain list
pub all_listed : (r low high : List ℕ) → IsUpTo low r → IsUpTo r high → IsIn r (recipes_between low high)
all_listed [] [] high h k = inl refl
all_listed [] (l ∷ low) high h k = absurd h
all_listed (n ∷ r) [] high h k = absurd h
all_listed (n ∷ r) (l ∷ low) [] h k = absurd k
all_listed (n ∷ r) (l ∷ low) (m ∷ high) h k = in_each n l (m + 1 - l) r (recipes_between low high) h.0 (omega (arith, h.0, k.0)) (all_listed r low high h.1 k.1)

-- an item of two lists put together is an item of one of them
either : (r : List ℕ) (xs ys : List (List ℕ)) → IsIn r (xs ++ ys) → IsIn r xs ⊎ IsIn r ys
either r [] ys h = inr h
either r (x ∷ xs) ys (inl e) = inl (inl e)
either r (x ∷ xs) ys (inr h) = elim (either r xs ys h) as (λ _. IsIn r (x ∷ xs) ⊎ IsIn r ys) [ inl i ↦ inl (inr i) | inr i ↦ inr i ]

-- a recipe is a number followed by an item of a list
pub record Begins (n : ℕ) (xs : List (List ℕ)) (r : List ℕ) : Type 0 where
  pub rest : List ℕ
  pub is : (n ∷ rest) ≡ r
  pub there : IsIn rest xs

from_map : (n : ℕ) (r : List ℕ) (xs : List (List ℕ)) → IsIn r (map (λ steps. n ∷ steps) xs) → Begins n xs r
from_map n r [] h = absurd h
from_map n r (x ∷ xs) (inl e) = record { rest = x; is = e; there = inl refl }
from_map n r (x ∷ xs) (inr h) =
    let b = from_map n r xs h in
    record { rest = b.rest; is = b.is; there = inr b.there }

pub record BeginsIn (first count : ℕ) (xs : List (List ℕ)) (r : List ℕ) : Type 0 where
  pub number : ℕ
  pub low : first ≤ number
  pub high : number < first + count
  pub begins : Begins number xs r

from_each : (first count : ℕ) (r : List ℕ) (xs : List (List ℕ)) → IsIn r (each_before (numbers_from first count) xs) → BeginsIn first count xs r
from_each first zero r xs h = absurd h
from_each first (suc count) r xs h = elim (either r (map (λ steps. first ∷ steps) xs) (each_before (numbers_from (first + 1) count) xs) h) as (λ _. BeginsIn first (suc count) xs r) [
  | inl i ↦ record { number = first; low = omega arith; high = omega arith; begins = from_map first r xs i }
  | inr i ↦
      let b = from_each (first + 1) count r xs i in
      record { number = b.number; low = omega (arith, b.low); high = omega (arith, b.high); begins = b.begins }
]

-- each recipe of the plain list lies in the box
pub listed_within : (r low high : List ℕ) → IsUpTo low high → IsIn r (recipes_between low high) → IsUpTo low r × IsUpTo r high
listed_within r [] [] h (inl e) = subst (λ s. IsUpTo [] s × IsUpTo s []) e (tt, tt)
listed_within r [] [] h (inr i) = absurd i
listed_within r [] (m ∷ high) h i = absurd h
listed_within r (l ∷ low) [] h i = absurd h
listed_within r (l ∷ low) (m ∷ high) h i =
    let b = from_each l (m + 1 - l) r (recipes_between low high) i in
    let rest = listed_within b.begins.rest low high h.1 b.begins.there in
    subst (λ s. IsUpTo (l ∷ low) s × IsUpTo s (m ∷ high)) b.begins.is ((b.low, rest.0), (omega (arith, b.high, h.0), rest.1))

-- the first match of a list: an item that is admitted and passes, and no such item comes before it
pub record IsFirst (l : Land) (list : List (List ℕ)) (r : List ℕ) : Type 0 where
  pub member : IsIn r list
  pub matches : is_match l r ≡ true
  pub first : (s : List ℕ) → IsIn s list → is_match l s ≡ true → is_before l s r ≡ false

abbrev pub IsFirstOf : Land → List (List ℕ) → Option (List ℕ) → Type 0
IsFirstOf l list None = (s : List ℕ) → IsIn s list → is_match l s ≡ false
IsFirstOf l list (Some r) = IsFirst l list r

module _ (l : Land) where
  abbrev K : List ℕ → KeyView
  K steps = key_of l steps

  turned : (a b : List ℕ) → is_before l a b ≡ is_gt (key_cmp (K b) (K a))
  turned a b = ap is_lt (keys_are_ordered.antisymm (K a) (K b)) ∙ lt_turned (key_cmp (K b) (K a))

  pub never_before_itself : (a : List ℕ) → is_before l a a ≡ false
  never_before_itself a = ap is_lt (tied_itself keys_are_ordered (K a))

  -- where r is not before s and t is not before r, t is not before s
  pub not_before_trans : (t r s : List ℕ) → is_before l r s ≡ false → is_before l t r ≡ false → is_before l t s ≡ false
  not_before_trans t r s h k = turned t s ∙ upto keys_are_ordered (K s) (K r) (K t) (sym (turned r s) ∙ h) (sym (turned t r) ∙ k)

  -- two recipes do not come before each other
  pub not_both_before : (r s : List ℕ) → is_before l r s ≡ true → is_before l s r ≡ false
  not_both_before r s h = go (key_cmp (K r) (K s)) refl where
    go : (o : Ordering) → key_cmp (K r) (K s) ≡ o → is_before l s r ≡ false
    go Less e = turned s r ∙ ap is_gt e
    go Equal e = turned s r ∙ ap is_gt e
    go Greater e = absurd (false≢true (sym (ap is_lt e) ∙ h))

  pub before_trans : (r s t : List ℕ) → is_before l r s ≡ true → is_before l s t ≡ true → is_before l r t ≡ true
  before_trans r s t h k = by (is_before l r t) (λ e. e)
      (λ e. absurd (false≢true (sym (not_before_trans r t s (not_both_before s t k) e) ∙ h)))

  clash : {P : Type 0} (s t : List ℕ) → s ≡ t → is_match l s ≡ false → is_match l t ≡ true → P
  clash s t e f h = absurd (false≢true (sym f ∙ ap (is_match l) e ∙ h))

  -- the first match of a list that begins with a match
  join : (s : List ℕ) (rest : List (List ℕ)) (o : Option (List ℕ)) → is_match l s ≡ true → IsFirstOf l rest o → IsFirstOf l (s ∷ rest) (earlier l s o)
  join s rest None m h = record {
    member = inl refl;
    matches = m;
    first = λ t i p. elim i as (λ _. is_before l t s ≡ false) [
      | inl e ↦ subst (λ u. is_before l u s ≡ false) e (never_before_itself s)
      | inr j ↦ absurd (false≢true (sym (h t j) ∙ p))
    ];
  }
  join s rest (Some r) m h = go (is_before l r s) refl where
    go : (b : Bool) → is_before l r s ≡ b → IsFirstOf l (s ∷ rest) (if b then Some r else Some s)
    go true e = record {
      member = inr h.member;
      matches = h.matches;
      first = λ t i p. elim i as (λ _. is_before l t r ≡ false) [
        | inl q ↦ subst (λ u. is_before l u r ≡ false) q (not_both_before r s e)
        | inr j ↦ h.first t j p
      ];
    }
    go false e = record {
      member = inl refl;
      matches = m;
      first = λ t i p. elim i as (λ _. is_before l t s ≡ false) [
        | inl q ↦ subst (λ u. is_before l u s ≡ false) q (never_before_itself s)
        | inr j ↦ not_before_trans t r s e (h.first t j p)
      ];
    }

  skip : (s : List ℕ) (rest : List (List ℕ)) (o : Option (List ℕ)) → is_match l s ≡ false → IsFirstOf l rest o → IsFirstOf l (s ∷ rest) o
  skip s rest None m h = λ t i. elim i as (λ _. is_match l t ≡ false) [ inl e ↦ sym (ap (is_match l) e) ∙ m | inr j ↦ h t j ]
  skip s rest (Some r) m h = record {
    member = inr h.member;
    matches = h.matches;
    first = λ t i p. elim i as (λ _. is_before l t r ≡ false) [
      | inl q ↦ clash s t q m p
      | inr j ↦ h.first t j p
    ];
  }

  pub firsts : (list : List (List ℕ)) → IsFirstOf l list (first_match l list)
  firsts [] = λ s i. absurd i
  firsts (s ∷ rest) = go (firsts rest) (is_match l s) refl where
    go : IsFirstOf l rest (first_match l rest) → (b : Bool) → is_match l s ≡ b → IsFirstOf l (s ∷ rest) (if b then earlier l s (first_match l rest) else first_match l rest)
    go h true m = join s rest (first_match l rest) m h
    go h false m = skip s rest (first_match l rest) m h

  -- the answer is the first recipe of the grid that is admitted and passes, and None where there is
  -- no such recipe
  pub answer_is : AnswerIsFirst l
  answer_is box = go (answer_of l) (firsts (all_recipes l)) where
    go : (o : Option (List ℕ)) → IsFirstOf l (all_recipes l) o → IsAnswer l o
    go None h = λ s w. h s (all_listed s l.top.lo l.top.hi w.0 w.1)
    go (Some r) h = record {
      grid = listed_within r l.top.lo l.top.hi box h.member;
      matches = h.matches;
      first = λ s w p. h.first s (all_listed s l.top.lo l.top.hi w.0 w.1) p;
    }

  first_put : (s : List ℕ) (xs : List (List ℕ)) → slice_get (put_in l s xs) 0 ≡ earlier l s (slice_get xs 0)
  first_put s [] = refl
  first_put s (x ∷ xs) = go (is_before l s x) (is_before l x s) refl refl where
    go : (p q : Bool) → is_before l s x ≡ p → is_before l x s ≡ q
        → slice_get (if p then s ∷ x ∷ xs else if q then x ∷ put_in l s xs else x ∷ xs) 0 ≡ (if q then Some x else Some s)
    go true true e f = absurd (false≢true (sym (not_both_before s x e) ∙ f))
    go true false e f = refl
    go false true e f = refl
    go false false e f = ap Some (sym (tied_keys (K s) (K x) e f))

  first_in_order : (xs : List (List ℕ)) → slice_get (in_order l (filter (is_match l) xs)) 0 ≡ first_match l xs
  first_in_order [] = refl
  first_in_order (s ∷ xs) = go (first_in_order xs) (is_match l s) where
    go : slice_get (in_order l (filter (is_match l) xs)) 0 ≡ first_match l xs → (t : Bool)
        → slice_get (in_order l (cond t (s ∷ filter (is_match l) xs) (filter (is_match l) xs))) 0 ≡ (if t then earlier l s (first_match l xs) else first_match l xs)
    go rest true = first_put s (in_order l (filter (is_match l) xs)) ∙ ap (earlier l s) rest
    go rest false = rest

  -- the first match in order is the answer
  pub first_is_answer : FirstIsAnswer l
  first_is_answer = first_in_order (all_recipes l)
