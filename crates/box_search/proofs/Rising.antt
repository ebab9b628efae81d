-- Lists of recipes that rise.
use Rattle.std.proofs.Common.{◌≡◌, ◌||◌, ◌++◌, ℕ, zero, suc, List, [], ◌∷◌, Bool, true, false, if◌then◌else◌, refl, sym, ap, subst, ◌∙◌, ◌⊎◌, inl, inr, arith}
use Rattle.std.specs.Prelude.{All}
use Rattle.std.specs.List.{AllByRecursion, Contains}
use Rattle.std.proofs.lemmas.Bool.{false≢true, or_right}
use Rattle.std.proofs.lemmas.List.Elements.{All-contains, All-contains_itself, All-from_recursion, All-weaker, recursion_from_All}
use Rattle.std.proofs.lemmas.Slice.Eq.{bytes_eq-Decides}
use Rattle.box_specs.specs.Order.{IsRising, in_order, put_in}
use Rattle.box_specs.specs.Landscape.{Land, is_before, key_of}
use Rattle.box_specs.specs.Span.{same_steps}
use Rattle.box_specs.specs.Validity.{is_listed}
use Rattle.box_specs.proofs.Answers.{before_trans, never_before_itself, not_both_before}
use Rattle.box_specs.proofs.Keys.{tied_keys}
use Rattle.box_specs.proofs.Lists.{listed_by, listed_of}

or_cases : (a b : Bool) → a || b ≡ true → (a ≡ true) ⊎ (b ≡ true)
or_cases true b h = inl refl
or_cases false b h = inr h

listed_cases : (x : List ℕ) (xs : List (List ℕ)) (r : List ℕ) → is_listed (x ∷ xs) r ≡ true → (r ≡ x) ⊎ (is_listed xs r ≡ true)
listed_cases x xs r h = elim (or_cases (same_steps r x) (is_listed xs r) h) as (λ _. (r ≡ x) ⊎ (is_listed xs r ≡ true)) [
  | inl y ↦ inl ((bytes_eq-Decides r x).0 y)
  | inr y ↦ inr y
]

of_listed : (P : List ℕ → Type 0) (xs : List (List ℕ)) (r : List ℕ) → AllByRecursion P xs → is_listed xs r ≡ true → P r
of_listed P [] r a h = absurd (false≢true h)
of_listed P (x ∷ xs) r a h = elim (listed_cases x xs r h) as (λ _. P r) [
  | inl y ↦ subst P (sym y) a.0
  | inr y ↦ of_listed P xs r a.1 y
]

all_weaker : (P Q : List ℕ → Type 0) → ((r : List ℕ) → P r → Q r) → (xs : List (List ℕ)) → AllByRecursion P xs → AllByRecursion Q xs
all_weaker P Q f [] a = tt
all_weaker P Q f (x ∷ xs) a = (f x a.0, all_weaker P Q f xs a.1)

pub here_listed : (x : List ℕ) (xs : List (List ℕ)) → is_listed (x ∷ xs) x ≡ true
here_listed x xs = ap (λ t. t || is_listed xs x) ((bytes_eq-Decides x x).1 refl)

pub later_listed : (x : List ℕ) (xs : List (List ℕ)) (r : List ℕ) → is_listed xs r ≡ true → is_listed (x ∷ xs) r ≡ true
later_listed x xs r h = or_right (same_steps r x) (is_listed xs r) h

right_listed : (xs ys : List (List ℕ)) (r : List ℕ) → is_listed ys r ≡ true → is_listed (xs ++ ys) r ≡ true
right_listed [] ys r h = h
right_listed (x ∷ xs) ys r h = later_listed x (xs ++ ys) r (right_listed xs ys r h)

module _ (l : Land) where
  -- each recipe stands before all that follow
  abbrev Rises : List (List ℕ) → Type 0
  Rises [] = Unit {0}
  Rises (r ∷ rs) = AllByRecursion (λ s. is_before l r s ≡ true) rs × Rises rs

  rises : (xs : List (List ℕ)) → IsRising l xs → Rises xs
  rises [] h = tt
  rises (r ∷ rs) h = (
    recursion_from_All (λ s. is_before l r s ≡ true) rs (λ k d a. h 0 (suc k) d (omega arith) (omega (arith, a))),
    rises rs (λ i j d a b. h (suc i) (suc j) d (omega (arith, a)) (omega (arith, b))),
  )

  is_rising : (xs : List (List ℕ)) → Rises xs → IsRising l xs
  is_rising [] h i j d a b = absurd (omega (arith, b))
  is_rising (r ∷ rs) h i zero d a b = absurd (omega (arith, a))
  is_rising (r ∷ rs) h zero (suc j) d a b = All-from_recursion (λ s. is_before l r s ≡ true) rs h.0 j d (omega (arith, b))
  is_rising (r ∷ rs) h (suc i) (suc j) d a b = is_rising rs h.1 i j d (omega (arith, a)) (omega (arith, b))

  same_heads : (x y : List ℕ) (xs ys : List (List ℕ)) → Rises (x ∷ xs) → Rises (y ∷ ys) → is_listed (y ∷ ys) x ≡ true → is_listed (x ∷ xs) y ≡ true → x ≡ y
  same_heads x y xs ys h k a b = elim (listed_cases y ys x a) as (λ _. x ≡ y) [
    | inl e ↦ e
    | inr p ↦ elim (listed_cases x xs y b) as (λ _. x ≡ y) [
      | inl e ↦ sym e
      | inr q ↦ absurd (false≢true (sym (not_both_before l x y (of_listed (λ s. is_before l x s ≡ true) xs y h.0 q)) ∙ of_listed (λ s. is_before l y s ≡ true) ys x k.0 p))
    ]
  ]

  behind : (x y : List ℕ) (xs ys : List (List ℕ)) → x ≡ y → AllByRecursion (λ s. is_before l x s ≡ true) xs → AllByRecursion (λ r. is_listed (y ∷ ys) r ≡ true) xs
      → AllByRecursion (λ r. is_listed ys r ≡ true) xs
  behind x y [] ys e h a = tt
  behind x y (r ∷ xs) ys e h a = (
    elim (listed_cases y ys r a.0) as (λ _. is_listed ys r ≡ true) [
      | inl f ↦ absurd (false≢true (sym (never_before_itself l x) ∙ subst (λ s. is_before l x s ≡ true) (f ∙ sym e) h.0))
      | inr f ↦ f
    ],
    behind x y xs ys e h.1 a.1,
  )

  -- two rising lists of the same recipes are equal
  one_list : (xs ys : List (List ℕ)) → Rises xs → Rises ys → AllByRecursion (λ r. is_listed ys r ≡ true) xs → AllByRecursion (λ r. is_listed xs r ≡ true) ys → xs ≡ ys
  one_list [] [] h k a b = refl
  one_list [] (y ∷ ys) h k a b = absurd (false≢true b.0)
  one_list (x ∷ xs) [] h k a b = absurd (false≢true a.0)
  one_list (x ∷ xs) (y ∷ ys) h k a b =
      let head = same_heads x y xs ys h k a.0 b.0 in
      let tail = one_list xs ys h.1 k.1 (behind x y xs ys head h.0 a.1) (behind y x ys xs (sym head) k.0 b.1) in
      λ i. head i ∷ tail i

  -- what stands before a recipe of xs and is one of ys, is one of xs
  abbrev IsClosed : (xs ys : List (List ℕ)) → Type 0
  IsClosed xs ys = (y x : List ℕ) → is_listed ys y ≡ true → is_listed xs x ≡ true → is_before l y x ≡ true → is_listed xs y ≡ true

  begins_with : (xs ys : List (List ℕ)) → Rises xs → Rises ys → AllByRecursion (λ r. is_listed ys r ≡ true) xs → IsClosed xs ys → (rest : List (List ℕ)) × (ys ≡ xs ++ rest)
  begins_with [] ys h k a d = (ys, refl)
  begins_with (x ∷ xs) [] h k a d = absurd (false≢true a.0)
  begins_with (x ∷ xs) (y ∷ ys) h k a d =
      let rest = begins_with xs ys h.1 k.1 (behind x y xs ys head h.0 a.1) closed in
      (rest.0, λ i. sym head i ∷ rest.1 i) where
        head : x ≡ y
        head = elim (listed_cases y ys x a.0) as (λ _. x ≡ y) [
          | inl e ↦ e
          | inr p ↦ same_heads x y xs ys h k a.0 (d y x (here_listed y ys) (here_listed x xs) (of_listed (λ s. is_before l y s ≡ true) ys x k.0 p))
        ]

        closed : IsClosed xs ys
        closed z w p q b = elim (listed_cases x xs z (d z w (later_listed y ys z p) (later_listed x xs w q) b)) as (λ _. is_listed xs z ≡ true) [
          | inl e ↦ absurd (false≢true (sym (never_before_itself l y) ∙ subst (λ s. is_before l y s ≡ true) (e ∙ head) (of_listed (λ s. is_before l y s ≡ true) ys z k.0 p)))
          | inr e ↦ e
        ]

  -- a rising list has no recipe twice
  once : (xs ys : List (List ℕ)) (r : List ℕ) → Rises (xs ++ ys) → is_listed xs r ≡ true → is_listed ys r ≡ true → ⊥
  once [] ys r h k m = false≢true k
  once (x ∷ xs) ys r h k m = elim (listed_cases x xs r k) as (λ _. ⊥) [
    | inl e ↦ false≢true (sym (never_before_itself l x) ∙ subst (λ s. is_before l x s ≡ true) e (of_listed (λ s. is_before l x s ≡ true) (xs ++ ys) r h.0 (right_listed xs ys r m)))
    | inr p ↦ once xs ys r h.1 p m
  ]

  -- `put_in r xs` has the recipes of xs and r, and no other, and rises where xs does
  put_all : (P : List ℕ → Type 0) (r : List ℕ) (xs : List (List ℕ)) → P r → AllByRecursion P xs → AllByRecursion P (put_in l r xs)
  put_all P r [] p a = (p, tt)
  put_all P r (x ∷ xs) p a = go (put_all P r xs p a.1) (is_before l r x) (is_before l x r) where
    go : AllByRecursion P (put_in l r xs) → (s t : Bool) → AllByRecursion P (if s then r ∷ x ∷ xs else if t then x ∷ put_in l r xs else x ∷ xs)
    go rest true t = (p, a)
    go rest false true = (a.0, rest)
    go rest false false = a

  put_back : (P : List ℕ → Type 0) (r : List ℕ) (xs : List (List ℕ)) → AllByRecursion P (put_in l r xs) → P r × AllByRecursion P xs
  put_back P r [] a = a
  put_back P r (x ∷ xs) a = go (put_back P r xs) (is_before l r x) (is_before l x r) refl refl a where
    go : (AllByRecursion P (put_in l r xs) → P r × AllByRecursion P xs) → (s t : Bool) → is_before l r x ≡ s → is_before l x r ≡ t
        → AllByRecursion P (if s then r ∷ x ∷ xs else if t then x ∷ put_in l r xs else x ∷ xs) → P r × AllByRecursion P (x ∷ xs)
    go rest true t e f b = b
    go rest false true e f b =
        let more = rest b.1 in
        (more.0, (b.0, more.1))
    go rest false false e f b = (subst P (sym (tied_keys (key_of l r) (key_of l x) e f)) b.0, b)

  put_rises : (r : List ℕ) (xs : List (List ℕ)) → Rises xs → Rises (put_in l r xs)
  put_rises r [] h = (tt, tt)
  put_rises r (x ∷ xs) h = go (put_rises r xs h.1) (is_before l r x) (is_before l x r) refl refl where
    go : Rises (put_in l r xs) → (s t : Bool) → is_before l r x ≡ s → is_before l x r ≡ t → Rises (if s then r ∷ x ∷ xs else if t then x ∷ put_in l r xs else x ∷ xs)
    go rest true t e f = ((e, all_weaker (λ y. is_before l x y ≡ true) (λ y. is_before l r y ≡ true) (λ y k. before_trans l r x y e k) xs h.0), h)
    go rest false true e f = (put_all (λ y. is_before l x y ≡ true) r xs f h.0, rest)
    go rest false false e f = h

  in_order_all : (P : List ℕ → Type 0) (xs : List (List ℕ)) → AllByRecursion P xs → AllByRecursion P (in_order l xs)
  in_order_all P [] a = tt
  in_order_all P (x ∷ xs) a = put_all P x (in_order l xs) a.0 (in_order_all P xs a.1)

  in_order_back : (P : List ℕ → Type 0) (xs : List (List ℕ)) → AllByRecursion P (in_order l xs) → AllByRecursion P xs
  in_order_back P [] a = tt
  in_order_back P (x ∷ xs) a =
      let both = put_back P x (in_order l xs) a in
      (both.0, in_order_back P xs both.1)

  in_order_rises : (xs : List (List ℕ)) → Rises (in_order l xs)
  in_order_rises [] = tt
  in_order_rises (x ∷ xs) = put_rises x (in_order l xs) (in_order_rises xs)

  -- `in_order l xs` is a rising list of the recipes of xs
  pub order_rises : (xs : List (List ℕ)) → IsRising l (in_order l xs)
  order_rises xs = is_rising (in_order l xs) (in_order_rises xs)

  pub order_each : (xs : List (List ℕ)) → All (Contains xs) (in_order l xs)
  order_each xs = All-from_recursion (Contains xs) (in_order l xs) (in_order_all (Contains xs) xs (recursion_from_All (Contains xs) xs (All-contains_itself xs)))

  pub order_every : (xs : List (List ℕ)) → All (Contains (in_order l xs)) xs
  order_every xs = All-from_recursion (Contains (in_order l xs)) xs
      (in_order_back (Contains (in_order l xs)) xs (recursion_from_All (Contains (in_order l xs)) (in_order l xs) (All-contains_itself (in_order l xs))))

  are_listed : (xs ys : List (List ℕ)) → All (Contains ys) xs → AllByRecursion (λ r. is_listed ys r ≡ true) xs
  are_listed xs ys h = recursion_from_All (λ r. is_listed ys r ≡ true) xs
      (All-weaker (Contains ys) (λ r. is_listed ys r ≡ true) (λ r c. listed_by ys r c) xs h)

  -- a rising list of recipes of another, with all of that other which stand before one of them, is
  -- the beginning of that other
  pub prefix : (xs ys : List (List ℕ)) → IsRising l xs → IsRising l ys → All (Contains ys) xs
      → ((y x : List ℕ) → Contains ys y → Contains xs x → is_before l y x ≡ true → Contains xs y) → (rest : List (List ℕ)) × (ys ≡ xs ++ rest)
  prefix xs ys h k each closed =
      begins_with xs ys (rises xs h) (rises ys k) (are_listed xs ys each) (λ y x p q b. listed_by xs y (closed y x (listed_of ys y p) (listed_of xs x q) b))

  pub not_twice : (xs ys : List (List ℕ)) (r : List ℕ) → IsRising l (xs ++ ys) → Contains xs r → is_listed ys r ≡ true → ⊥
  not_twice xs ys r h k m = once xs ys r (rises (xs ++ ys) h) (listed_by xs r k) m

  -- and each rising list of the recipes of xs is that one
  pub order_is : (listed xs : List (List ℕ)) → IsRising l listed → All (Contains xs) listed → All (Contains listed) xs → listed ≡ in_order l xs
  order_is listed xs rising each every =
      let there = order_every xs in
      let up = All-weaker (Contains xs) (Contains (in_order l xs)) (λ r c. All-contains (Contains (in_order l xs)) xs r there c) listed each in
      one_list listed (in_order l xs) (rises listed rising) (in_order_rises xs) (are_listed listed (in_order l xs) up)
      (in_order_all (λ r. is_listed listed r ≡ true) xs (are_listed xs listed every))
