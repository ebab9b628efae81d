-- All recipes that are admitted and pass, in their order.
use Rattle.std.proofs.Common.{◌≡◌, ◌-◌, ◌≤◌, ℕ, zero, suc, List, [], ◌∷◌, ◌++◌, Bool, true, false, cond, length, take, refl, sym, ap, subst, ◌∙◌, inl, inr, arith}
use Rattle.std.specs.Prelude.{All, Some}
use Rattle.std.specs.List.{AllByRecursion, Contains, filter, slice_get}
use Rattle.std.proofs.lemmas.List.Elements.{All-contains, All-from_recursion, All-weaker}
use Rattle.std.proofs.lemmas.Option.{get_or_from_slice_get, none-some, slice_get_within}
use Rattle.box_specs.specs.Answer.{all_recipes, is_match, kth_match, matches}
use Rattle.box_specs.specs.Landscape.{Land}
use Rattle.box_specs.specs.Order.{IsRising}
use Rattle.box_specs.specs.Span.{IsBox, IsWithin}
use Rattle.box_specs.specs.Validity.{is_listed}
use Rattle.box_specs.proofs.Answers.{IsIn, all_listed, listed_within}
use Rattle.box_specs.proofs.Lists.{listed_of}
use Rattle.box_specs.proofs.Tests.{some_same}
use Rattle.box_search.proofs.Rising.{here_listed, later_listed, order_each, order_every, order_rises}

-- the recipes of a list that pass a test
filter_all : (P : List ℕ → Type 0) (test : List ℕ → Bool) (xs : List (List ℕ)) → ((r : List ℕ) → IsIn r xs → test r ≡ true → P r) → AllByRecursion P (filter test xs)
filter_all P test [] h = tt
filter_all P test (x ∷ xs) h = go (filter_all P test xs (λ r i. h r (inr i))) (test x) refl where
  go : AllByRecursion P (filter test xs) → (t : Bool) → test x ≡ t → AllByRecursion P (cond t (x ∷ filter test xs) (filter test xs))
  go rest true e = (h x (inl refl) e, rest)
  go rest false e = rest

filter_listed : (test : List ℕ → Bool) (r : List ℕ) (xs : List (List ℕ)) → IsIn r xs → test r ≡ true → is_listed (filter test xs) r ≡ true
filter_listed test r [] i h = absurd i
filter_listed test r (x ∷ xs) (inl e) h =
    subst (λ t. is_listed (cond t (x ∷ filter test xs) (filter test xs)) r ≡ true) (sym (ap test e ∙ h))
    (subst (λ s. is_listed (x ∷ filter test xs) s ≡ true) e (here_listed x (filter test xs)))
filter_listed test r (x ∷ xs) (inr i) h = go (filter_listed test r xs i h) (test x) where
  go : is_listed (filter test xs) r ≡ true → (t : Bool) → is_listed (cond t (x ∷ filter test xs) (filter test xs)) r ≡ true
  go k true = later_listed x (filter test xs) r k
  go k false = k

module _ (l : Land) where
  -- a recipe of the grid that is admitted and passes
  abbrev pub IsMatch : List ℕ → Type 0
  IsMatch r = IsWithin r l.top × (is_match l r ≡ true)

  abbrev Passing : List (List ℕ)
  Passing = filter (is_match l) (all_recipes l)

  passing_all : IsBox l.top → All IsMatch Passing
  passing_all box = All-from_recursion IsMatch Passing (filter_all IsMatch (is_match l) (all_recipes l) (λ r i m. (listed_within r l.top.lo l.top.hi box i, m)))

  pub matches_all : IsBox l.top → All IsMatch (matches l)
  matches_all box = All-weaker (Contains Passing) IsMatch (λ r c. All-contains IsMatch Passing r (passing_all box) c) (matches l) (order_each l Passing)

  pub matches_rise : IsRising l (matches l)
  matches_rise = order_rises l Passing

  pub match_in : (r : List ℕ) → IsMatch r → Contains (matches l) r
  match_in r m =
      All-contains (Contains (matches l)) Passing r (order_every l Passing)
      (listed_of Passing r (filter_listed (is_match l) r (all_recipes l) (all_listed r l.top.lo l.top.hi m.0.0 m.0.1) m.1))

  -- the k-th match is one
  pub kth_is : IsBox l.top → (k : ℕ) (r : List ℕ) → kth_match l k ≡ Some r → IsMatch r
  kth_is box k r h =
      subst IsMatch (get_or_from_slice_get (matches l) (k - 1) r [] h) (matches_all box (k - 1) [] (slice_get_within (matches l) (k - 1) r h))

at_listed : (xs : List (List ℕ)) (k : ℕ) (r : List ℕ) → slice_get xs k ≡ Some r → is_listed xs r ≡ true
at_listed [] k r h = absurd (none-some r h)
at_listed (x ∷ xs) zero r h = subst (λ s. is_listed (x ∷ xs) s ≡ true) (some_same x r h) (here_listed x xs)
at_listed (x ∷ xs) (suc k) r h = later_listed x xs r (at_listed xs k r h)

-- what stands in two lists after the first of them is one of the second
pub rest_listed : (xs ys : List (List ℕ)) (k : ℕ) (r : List ℕ) → length xs ≤ k → slice_get (xs ++ ys) k ≡ Some r → is_listed ys r ≡ true
rest_listed [] ys k r n h = at_listed ys k r h
rest_listed (x ∷ xs) ys zero r n h = absurd (omega (arith, n))
rest_listed (x ∷ xs) ys (suc k) r n h = rest_listed xs ys k r (omega (arith, n)) h

-- the recipe that was put last
pub last_at : (xs ys : List (List ℕ)) (r : List ℕ) → slice_get ((xs ++ r ∷ []) ++ ys) (length xs) ≡ Some r
last_at [] ys r = refl
last_at (x ∷ xs) ys r = last_at xs ys r

pub take_own : (xs ys : List (List ℕ)) → take (length xs) (xs ++ ys) ≡ xs
take_own [] ys = refl
take_own (x ∷ xs) ys = ap (λ zs. x ∷ zs) (take_own xs ys)
