-- The choice of one of two intervals, or of the hull of both.
use Rattle.std.proofs.Common.{ℕ, ◌≡◌, ◌∙◌, Bool, true, false, cond, subst, sym}
use Rattle.interval_specs.specs.Ends.{Ends}
use Rattle.interval_specs.specs.Ranges.{UpTo}
use Rattle.interval_specs.specs.Operations.{hull_of}
use Rattle.interval_specs.proofs.Ranges.{carry_up_to, hull_up_to}

pub first_chosen : (f s : Bool) (a b r : Ends) → f ≡ true → r ≡ a → r ≡ cond f a (cond s b (hull_of a b))
first_chosen f s a b r e h = subst (λ t. r ≡ cond t a (cond s b (hull_of a b))) (sym e) h

pub second_chosen : (f s : Bool) (a b r : Ends) → f ≡ false → s ≡ true → r ≡ b → r ≡ cond f a (cond s b (hull_of a b))
second_chosen f s a b r e d h =
    let inner : r ≡ cond s b (hull_of a b) = subst (λ t. r ≡ cond t b (hull_of a b)) (sym d) h in
    subst (λ t. r ≡ cond t a (cond s b (hull_of a b))) (sym e) inner

pub both_chosen : (f s : Bool) (a b p q r : Ends) → f ≡ false → s ≡ false → p ≡ a → q ≡ b → r ≡ hull_of p q → r ≡ cond f a (cond s b (hull_of a b))
both_chosen f s a b p q r e d j k h =
    let hull : r ≡ hull_of a b = h ∙ (λ i. hull_of (j i) (k i)) in
    let inner : r ≡ cond s b (hull_of a b) = subst (λ t. r ≡ cond t b (hull_of a b)) (sym d) hull in
    subst (λ t. r ≡ cond t a (cond s b (hull_of a b))) (sym e) inner

pub hull_within : (k : ℕ) (p q r : Ends) → UpTo k p → UpTo k q → r ≡ hull_of p q → UpTo k r
hull_within k p q r u v e = carry_up_to k r (hull_of p q) e (hull_up_to k p q u v)
