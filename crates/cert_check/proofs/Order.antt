-- The order of recipes in a rising list.
use Rattle.std.proofs.Common.{◌≡◌, ◌+◌, ◌<◌, ◌≤◌, ◌||◌, ℕ, zero, suc, List, [], ◌∷◌, Bool, true, false, length, get_or, refl, sym, subst, ◌∙◌, inl, inr, arith}
use Rattle.std.proofs.lemmas.Bool.{cases_lt, false≢true}
use Rattle.std.proofs.lemmas.Slice.Eq.{bytes_eq-Decides}
use Rattle.box_specs.specs.Landscape.{Land, is_before}
use Rattle.box_specs.specs.Span.{same_steps}
use Rattle.box_specs.specs.Validity.{is_listed}
use Rattle.box_specs.proofs.Answers.{before_trans, never_before_itself, not_before_trans, not_both_before}
use Rattle.cert_check.specs.Ready.{IsSorted}

pub same_is : (a b : List ℕ) → same_steps a b ≡ true → a ≡ b
same_is a b h = (bytes_eq-Decides a b).0 h

pub itself : (a : List ℕ) → same_steps a a ≡ true
itself a = (bytes_eq-Decides a a).1 refl

pub differs : (a b : List ℕ) → (a ≡ b → ⊥) → same_steps a b ≡ false
differs a b h = go (same_steps a b) refl where
  go : (t : Bool) → same_steps a b ≡ t → t ≡ false
  go true e = absurd (h (same_is a b e))
  go false e = refl

-- a recipe that is at no index of a list is not listed
pub not_listed : (listed : List (List ℕ)) (r : List ℕ) → ((k : ℕ) → k < length listed → get_or listed k [] ≡ r → ⊥) → is_listed listed r ≡ false
not_listed [] r h = refl
not_listed (s ∷ listed) r h =
    rw (differs r s (λ e. h 0 (omega arith) (sym e)))
    (not_listed listed r (λ k lt e. h (suc k) (omega arith) e))

-- a recipe at some index is listed
pub listed_at : (listed : List (List ℕ)) (r : List ℕ) (k : ℕ) → k < length listed → get_or listed k [] ≡ r → is_listed listed r ≡ true
listed_at [] r k h e = absurd (omega arith)
listed_at (s ∷ listed) r zero h e = rw (subst (λ t. same_steps r t ≡ true) (sym e) (itself r)) refl
listed_at (s ∷ listed) r (suc k) h e = or_right (same_steps r s) (is_listed listed r) (listed_at listed r k (omega arith) e) where
  or_right : (a b : Bool) → b ≡ true → a || b ≡ true
  or_right true b h = refl
  or_right false b h = h

-- comparing with the recipe at an index finds whether it is this one
pub not_there : (listed : List (List ℕ)) (t r : List ℕ) (i : ℕ) (b : Bool) → b ≡ same_steps t r → b ≡ false → t ≡ get_or listed i [] → get_or listed i [] ≡ r → ⊥
not_there listed t r i b h other e at = false≢true (sym other ∙ h ∙ subst (λ s. same_steps s r ≡ true) (sym (e ∙ at)) (itself r))

pub is_there : (listed : List (List ℕ)) (t r : List ℕ) (i : ℕ) (b : Bool) → b ≡ same_steps t r → b ≡ true → t ≡ get_or listed i [] → get_or listed i [] ≡ r
is_there listed t r i b h same e = sym e ∙ same_is t r (sym h ∙ same)

module _ (l : Land) where
  module _ (listed : List (List ℕ)) (r : List ℕ) (sorted : IsSorted l listed) where
    -- where the recipe in the middle comes before another, so does each one up to the middle
    pub below_mid : (mid : ℕ) → mid < length listed → is_before l (get_or listed mid []) r ≡ true
        → (k : ℕ) → k < mid + 1 → is_before l (get_or listed k []) r ≡ true
    below_mid mid h b k lt = elim (cases_lt k mid) as (λ _. is_before l (get_or listed k []) r ≡ true) [
      | inl less ↦ before_trans l _ _ _ (sorted.rising k mid less h) b
      | inr more ↦
          let same : mid ≡ k = omega arith in
          subst (λ i. is_before l (get_or listed i []) r ≡ true) same b
    ]

    pub above_mid : (mid : ℕ) → is_before l (get_or listed mid []) r ≡ false
        → (k : ℕ) → mid ≤ k → k < length listed → is_before l (get_or listed k []) r ≡ false
    above_mid mid b k le lt = elim (cases_lt mid k) as (λ _. is_before l (get_or listed k []) r ≡ false) [
      | inl less ↦ not_before_trans l (get_or listed k []) (get_or listed mid []) r b (not_both_before l _ _ (sorted.rising mid k less lt))
      | inr more ↦
          let same : mid ≡ k = omega arith in
          subst (λ i. is_before l (get_or listed i []) r ≡ false) same b
    ]

    -- where the first recipe that does not come before another is not that one, no recipe of the
    -- list is
    pub none_there : (i : ℕ) → i ≤ length listed → ((k : ℕ) → k < i → is_before l (get_or listed k []) r ≡ true)
        → ((k : ℕ) → i ≤ k → k < length listed → is_before l (get_or listed k []) r ≡ false)
        → (i < length listed → get_or listed i [] ≡ r → ⊥) → is_listed listed r ≡ false
    none_there i le below above here = not_listed listed r (λ k lt e. elim (cases_lt k i) as (λ _. ⊥) [
      | inl less ↦ false≢true (sym (subst (λ s. is_before l s r ≡ false) (sym e) (never_before_itself l r)) ∙ below k less)
      | inr more ↦ elim (cases_lt i k) as (λ _. ⊥) [
        | inl past ↦ false≢true (sym (above i (omega arith) (omega arith)) ∙ subst (λ s. is_before l (get_or listed i []) s ≡ true) e (sorted.rising i k past lt))
        | inr at ↦
            let same : k ≡ i = omega arith in
            here (omega arith) (subst (λ j. get_or listed j [] ≡ r) same e)
      ]
    ])
