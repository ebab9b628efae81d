-- The marks of the listed recipes.
use Rattle.std.proofs.Common.{◌≡◌, ◌+◌, ◌<◌, ◌||◌, ◌++◌, ℕ, suc, List, [], ◌∷◌, Bool, true, false, length, get_or, set, replicate, refl, sym, ap, subst, ◌∙◌, inl, inr, arith}
use Rattle.std.proofs.lemmas.Bool.{cases_lt, false≢true}
use Rattle.std.proofs.lemmas.List.{get_or-replicate, get_or-set_other, get_or-set_same, length-replicate, length-set}
use Rattle.std.proofs.lemmas.List.Folds.{list_any-append}
use Rattle.box_specs.specs.Landscape.{Land, is_before}
use Rattle.box_specs.specs.Span.{Span, same_steps}
use Rattle.box_specs.specs.Validity.{is_listed, unmarked_failure}
use Rattle.box_specs.proofs.Answers.{never_before_itself}
use Rattle.cert_check.specs.Marks.{HasMarks, MarksMore, first_unmarked}
use Rattle.cert_check.specs.Ready.{IsSorted}
use Rattle.cert_check.specs.Walk.{recipe_if}
use Rattle.cert_check.proofs.Order.{differs, itself, listed_at}
use Rattle.cert_check.proofs.Within.{or_wrong}

or_false : (a : Bool) → a ≡ a || false
or_false true = refl
or_false false = refl

or_true : (a : Bool) → true ≡ a || true
or_true true = refl
or_true false = refl

or_assoc : (a b c : Bool) → (a || b) || c ≡ a || (b || c)
or_assoc true b c = refl
or_assoc false b c = refl

one_listed : (a b : List ℕ) (t : Bool) → same_steps b a ≡ t → is_listed (a ∷ []) b ≡ t
one_listed a b t e = sym (or_false (same_steps b a)) ∙ e

own_is : (b : Span) (t : Bool) → t ≡ true → recipe_if t b ≡ b.lo ∷ []
own_is b t e = rw e refl

pub mark_none : (listed : List (List ℕ)) (marks : List Bool) (b : Span) (t : Bool) → t ≡ true
    → is_listed listed b.lo ≡ false → MarksMore marks marks (recipe_if t b) listed
mark_none listed marks b t e h =
    subst (λ us. MarksMore marks marks us listed) (sym (own_is b t e)) (record {
      long = refl;
      each = λ k lt. or_false (get_or marks k false) ∙ ap (λ t. get_or marks k false || t) (sym (one_listed b.lo (get_or listed k []) false
          (differs (get_or listed k []) b.lo (λ same. false≢true (sym h ∙ listed_at listed b.lo k lt same)))));
    })

-- two indexes of a rising list have different recipes
other_index : (l : Land) (listed : List (List ℕ)) (i k : ℕ) → IsSorted l listed → i < k → k < length listed → get_or listed i [] ≡ get_or listed k [] → ⊥
other_index l listed i k s lt le e =
    false≢true (sym (never_before_itself l (get_or listed k [])) ∙ subst (λ r. is_before l r (get_or listed k []) ≡ true) e (s.rising i k lt le))

pub mark_some : (l : Land) (listed : List (List ℕ)) (marks : List Bool) (b : Span) (t : Bool) (i : ℕ) → IsSorted l listed
    → length marks ≡ length listed → t ≡ true → i < length listed → get_or listed i [] ≡ b.lo
    → MarksMore marks (set marks i true) (recipe_if t b) listed
mark_some l listed marks b t i s long e there at =
    subst (λ us. MarksMore marks (set marks i true) us listed) (sym (own_is b t e)) (record { long = length-set marks i true; each = each }) where
      other : (k : ℕ) → k < length listed → (k ≡ i → ⊥) → (get_or listed k [] ≡ get_or listed i [] → ⊥)
          → get_or (set marks i true) k false ≡ get_or marks k false || is_listed (b.lo ∷ []) (get_or listed k [])
      other k lt ne away =
          get_or-set_other marks i k true false ne ∙ or_false (get_or marks k false)
          ∙ ap (λ t. get_or marks k false || t) (sym (one_listed b.lo (get_or listed k []) false
          (differs (get_or listed k []) b.lo (λ same. away (same ∙ sym at)))))

      each : (k : ℕ) → k < length listed → get_or (set marks i true) k false ≡ get_or marks k false || is_listed (b.lo ∷ []) (get_or listed k [])
      each k lt = elim (cases_lt k i) as (λ _. get_or (set marks i true) k false ≡ get_or marks k false || is_listed (b.lo ∷ []) (get_or listed k [])) [
        | inl less ↦ other k lt (λ same. absurd (omega arith)) (λ same. other_index l listed k i s less there same)
        | inr more ↦ elim (cases_lt i k) as (λ _. get_or (set marks i true) k false ≡ get_or marks k false || is_listed (b.lo ∷ []) (get_or listed k [])) [
          | inl past ↦ other k lt (λ same. absurd (omega arith)) (λ same. other_index l listed i k s past lt (sym same))
          | inr level ↦
              let same : i ≡ k = omega arith in
              let within : i < length marks = omega arith in
              subst (λ j. get_or (set marks i true) j false ≡ get_or marks j false || is_listed (b.lo ∷ []) (get_or listed j [])) same
              (get_or-set_same marks i true false within ∙ or_true (get_or marks i false)
              ∙ ap (λ t. get_or marks i false || t) (sym (one_listed b.lo (get_or listed i []) true (subst (λ r. same_steps r b.lo ≡ true) (sym at) (itself b.lo)))))
        ]
      ]

pub marks_blank : (listed all : List (List ℕ)) → HasMarks (replicate (length listed) false) all listed all
marks_blank listed all = record {
  long = length-replicate (length listed) false;
  each = λ k lt. ap (λ t. t || is_listed all (get_or listed k [])) (get_or-replicate (length listed) k false false lt);
}

pub marks_on : (old new : List Bool) (coming us rest listed all : List (List ℕ)) → HasMarks old coming listed all → coming ≡ us ++ rest
    → MarksMore old new us listed → HasMarks new rest listed all
marks_on old new coming us rest listed all h e m = record {
  long = m.long ∙ h.long;
  each = λ k lt.
      ap (λ t. t || is_listed rest (get_or listed k [])) (m.each k lt)
      ∙ or_assoc (get_or old k false) (is_listed us (get_or listed k [])) (is_listed rest (get_or listed k []))
      ∙ ap (λ t. get_or old k false || t) (sym (list_any-append (same_steps (get_or listed k [])) us rest))
      ∙ ap (λ cs. get_or old k false || is_listed cs (get_or listed k [])) (sym e)
      ∙ h.each k lt;
}

pub unmarked_is : (l : Land) (marks : List Bool) (listed all : List (List ℕ)) (n : ℕ) → HasMarks marks [] listed all
    → first_unmarked n marks ≡ unmarked_failure l all n listed
unmarked_is l [] [] all n h = refl
unmarked_is l [] (r ∷ listed) all n h = absurd (omega (arith, h.long))
unmarked_is l (m ∷ marks) [] all n h = absurd (omega (arith, h.long))
unmarked_is l (m ∷ marks) (r ∷ listed) all n h =
    let rest : HasMarks marks [] listed all = record { long = omega (arith, h.long); each = λ k lt. h.each (suc k) (omega arith) } in
    let here : m ≡ is_listed all r = or_false m ∙ h.each 0 (omega arith) in
    ap (λ t. or_wrong t (first_unmarked (n + 1) marks) n) here ∙ ap (λ o. or_wrong (is_listed all r) o n) (unmarked_is l marks listed all (n + 1) rest)
