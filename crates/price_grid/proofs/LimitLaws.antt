-- The laws of the limits.
use Rattle.std.proofs.Common.{◌≡◌, ◌+◌, ◌*◌, ◌-◌, ◌≤◌, ℕ, zero, suc, List, [], ◌∷◌, true, ◌&&◌, nat_lt, if◌then◌else◌, get_or, refl, arith}
use Rattle.std.specs.Prelude.{Option, Some, None}
use Rattle.std.specs.List.{list_any}
use Rattle.std.proofs.lemmas.Bool.Decides.{nat_tests}
use Rattle.std.proofs.lemmas.List.Sums.{sum_by-cons}
use Rattle.price_grid.specs.declared.dye_cost.DyeCost.{DyeCost}
use Rattle.price_grid.specs.declared.limit.Limit.TheVariants.{Range, Count, Total, Pair, Ceiling}
use Rattle.price_grid.specs.Grid.{IsUpTo}
use Rattle.price_grid.specs.Laws.{ExcludedIsBroken, SingleIsBroken}
use Rattle.price_grid.specs.Limits.{any_outside, dyes_used, has_both, is_above, is_outside, units_of, with_bath}
use Rattle.price_grid.proofs.CostLaws.{cost_grows}
use Rattle.price_grid.proofs.SumFacts.{zip_sum-grows}

-- the bath adds the same steps to both
with_bath-grows : (bath low high : List ℕ) → IsUpTo low high → IsUpTo (with_bath bath low) (with_bath bath high)
with_bath-grows [] low high h = tt
with_bath-grows (b ∷ bath) [] [] h = tt
with_bath-grows (b ∷ bath) [] (n ∷ high) h = absurd h
with_bath-grows (b ∷ bath) (l ∷ low) [] h = absurd h
with_bath-grows (b ∷ bath) (l ∷ low) (n ∷ high) h = (omega (arith, h.0), with_bath-grows bath low high h.1)

-- a dye with any steps counts once
used-step : (n : ℕ) (steps : List ℕ) → dyes_used (n ∷ steps) ≡ (if nat_lt 0 n then 1 else 0) + dyes_used steps
used-step n steps = sum_by-cons (λ (m : ℕ). if nat_lt 0 m then 1 else 0) n steps

one-grows : (l n : ℕ) → l ≤ n → (if nat_lt 0 l then 1 else 0) ≤ (if nat_lt 0 n then 1 else 0)
one-grows l n h = grind (arith, nat_tests)

used-grows : (low high : List ℕ) → IsUpTo low high → dyes_used low ≤ dyes_used high
used-grows [] [] h = omega arith
used-grows [] (n ∷ high) h = absurd h
used-grows (l ∷ low) [] h = absurd h
used-grows (l ∷ low) (n ∷ high) h =
    let rest : dyes_used low ≤ dyes_used high = used-grows low high h.1 in
    rw (used-step l low, used-step n high) (omega (arith, one-grows l n h.0, rest))

units-grow : (dyes : List DyeCost) (low high : List ℕ) → IsUpTo low high → units_of dyes low ≤ units_of dyes high
units-grow = zip_sum-grows (λ (dye : DyeCost) (n : ℕ). n * dye.step) (λ dye l n h. grind arith)

at-grows : (low high : List ℕ) (i : ℕ) → IsUpTo low high → get_or low i 0 ≤ get_or high i 0
at-grows [] [] i h = omega arith
at-grows [] (n ∷ high) i h = absurd h
at-grows (l ∷ low) [] i h = absurd h
at-grows (l ∷ low) (n ∷ high) zero h = h.0
at-grows (l ∷ low) (n ∷ high) (suc i) h = at-grows low high i h.1

both-grow : (a b c d : ℕ) → a ≤ c → b ≤ d → nat_lt 0 a && nat_lt 0 b ≡ true → nat_lt 0 c && nat_lt 0 d ≡ true
both-grow a b c d h k e = grind (arith, nat_tests)

pairs-grow : (low high : List ℕ) → IsUpTo low high → (pairs : List (ℕ × ℕ)) → list_any (has_both low) pairs ≡ true → list_any (has_both high) pairs ≡ true
pairs-grow low high h [] e = e
pairs-grow low high h (p ∷ pairs) e =
    let first = at-grows low high (p.0 - 1) h in
    let second = at-grows low high (p.1 - 1) h in
    let here = both-grow _ _ _ _ first second in
    let rest = pairs-grow low high h pairs in
    grind arith

above-grows : (most : Option ℕ) (a b : ℕ) → a ≤ b → is_above most a ≡ true → is_above most b ≡ true
above-grows None a b h e = e
above-grows (Some most) a b h e = grind (arith, nat_tests)

outside-narrows : (dye : DyeCost) (low n high : ℕ) → low ≤ n → n ≤ high → is_outside dye low high ≡ true → is_outside dye n n ≡ true
outside-narrows dye low n high h k e = grind (arith, nat_tests)

any_outside-narrows : (dyes : List DyeCost) (low steps high : List ℕ) → IsUpTo low steps → IsUpTo steps high → any_outside dyes low high ≡ true → any_outside dyes steps steps ≡ true
any_outside-narrows [] low steps high h k e = e
any_outside-narrows (dye ∷ dyes) [] [] high h k e = e
any_outside-narrows (dye ∷ dyes) [] (n ∷ steps) high h k e = absurd h
any_outside-narrows (dye ∷ dyes) (l ∷ low) [] high h k e = absurd h
any_outside-narrows (dye ∷ dyes) (l ∷ low) (n ∷ steps) [] h k e = absurd k
any_outside-narrows (dye ∷ dyes) (l ∷ low) (n ∷ steps) (m ∷ high) h k e =
    let here = outside-narrows dye l n m h.0 k.0 in
    let rest = any_outside-narrows dyes low steps high h.1 k.1 in
    grind arith

above-more : (most a b : ℕ) → a ≤ b → nat_lt most a ≡ true → nat_lt most b ≡ true
above-more most a b h e = grind (arith, nat_tests)

pub excluded_is_broken : ExcludedIsBroken
excluded_is_broken dyes limits Range low steps high h k e =
    any_outside-narrows dyes _ _ _ (with_bath-grows limits.bath low steps h) (with_bath-grows limits.bath steps high k) e
excluded_is_broken dyes limits Count low steps high h k e = above-more limits.max_dyes _ _ (used-grows _ _ (with_bath-grows limits.bath low steps h)) e
excluded_is_broken dyes limits Total low steps high h k e = above-more limits.max_total _ _ (units-grow dyes _ _ (with_bath-grows limits.bath low steps h)) e
excluded_is_broken dyes limits Pair low steps high h k e = pairs-grow _ _ (with_bath-grows limits.bath low steps h) limits.pairs e
excluded_is_broken dyes limits Ceiling low steps high h k e = above-grows limits.max_cost _ _ (cost_grows dyes low steps h) e

pub single_is_broken : SingleIsBroken
single_is_broken dyes limits Range steps = refl
single_is_broken dyes limits Count steps = refl
single_is_broken dyes limits Total steps = refl
single_is_broken dyes limits Pair steps = refl
single_is_broken dyes limits Ceiling steps = refl
