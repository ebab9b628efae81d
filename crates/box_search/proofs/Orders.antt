-- The order of places.
use Rattle.std.proofs.Common.{◌≡◌, ◌+◌, ◌≤◌, ℕ, List, [], ◌∷◌, Bool, true, false, refl, sym, ap, ◌∙◌, inl, inr, arith}
use Rattle.std.proofs.lemmas.Bool.{cases_lt, false≢true}
use Rattle.std.proofs.lemmas.Bool.Decides.{nat_tests}
use Rattle.std.specs.Cmp.Lexicographic.{slice_cmp}
use Rattle.price_grid.specs.Grid.{IsUpTo}
use Rattle.std.specs.Cmp.{IsTotalOrder, nat_cmp_total, on_total, then_total, tied_itself, upto}
use Rattle.std.specs.Ordering.{is_gt, is_lt, nat_cmp, ordering_then}
use Rattle.std.specs.declared.cmp.Ordering.{Ordering}
use Rattle.std.specs.declared.cmp.Ordering.TheVariants.{Equal, Greater, Less}
use Rattle.price_grid.specs.Order.{KeyView, key_cmp}
use Rattle.price_grid.proofs.CostLaws.{keys_are_ordered}
use Rattle.box_specs.specs.Tree.{Spot, spot_cmp}
use Rattle.box_specs.proofs.Keys.{equal_of, equal_one, equal_two, lt_turned, same_list, same_number}
use Rattle.box_specs.proofs.Tests.{by}

pub spots_are_ordered : IsTotalOrder spot_cmp
spots_are_ordered = then_total (on_total (λ (s : Spot). s.key) keys_are_ordered) (on_total (λ (s : Spot). s.depth) nat_cmp_total)

-- whether a stands before b
abbrev pub precedes : Spot → Spot → Bool
precedes a b = is_lt (spot_cmp a b)

pub precedes_swapped : (a b : Spot) → precedes a b ≡ is_gt (spot_cmp b a)
precedes_swapped a b = ap is_lt (spots_are_ordered.antisymm a b) ∙ lt_turned (spot_cmp b a)

pub not_itself : (a : Spot) → precedes a a ≡ false
not_itself a = ap is_lt (tied_itself spots_are_ordered a)

-- where b is not before a and c is not before b, c is not before a
pub not_after : (a b c : Spot) → precedes b a ≡ false → precedes c b ≡ false → precedes c a ≡ false
not_after a b c h k = precedes_swapped c a ∙ upto spots_are_ordered a b c (sym (precedes_swapped b a) ∙ h) (sym (precedes_swapped c b) ∙ k)

pub not_both : (a b : Spot) → precedes a b ≡ true → precedes b a ≡ false
not_both a b h = go (spot_cmp a b) refl where
  go : (o : Ordering) → spot_cmp a b ≡ o → precedes b a ≡ false
  go Less e = precedes_swapped b a ∙ ap is_gt e
  go Equal e = precedes_swapped b a ∙ ap is_gt e
  go Greater e = absurd (false≢true (sym (ap is_lt e) ∙ h))

-- a stands before c where a is before b and b not after c, or where a is not after b and b before c
pub before_on : (a b c : Spot) → precedes a b ≡ true → precedes c b ≡ false → precedes a c ≡ true
before_on a b c h k = by (precedes a c) (λ e. e) (λ e. absurd (false≢true (sym (not_after b c a k e) ∙ h)))

pub on_before : (a b c : Spot) → precedes b a ≡ false → precedes b c ≡ true → precedes a c ≡ true
on_before a b c h k = by (precedes a c) (λ e. e) (λ e. absurd (false≢true (sym (not_after c a b e h) ∙ k)))

key_of_lt : (k d : Ordering) → is_lt (ordering_then k d) ≡ false → is_lt k ≡ false
key_of_lt Less d h = h
key_of_lt Equal d h = refl
key_of_lt Greater d h = refl

-- where a does not stand before b, its key does not either
pub key_not_before : (a b : Spot) → precedes a b ≡ false → is_lt (key_cmp a.key b.key) ≡ false
key_not_before a b h = key_of_lt (key_cmp a.key b.key) (nat_cmp a.depth b.depth) h

lt_of_key : (k d : Ordering) → is_lt k ≡ true → is_lt (ordering_then k d) ≡ true
lt_of_key Less d h = refl
lt_of_key Equal d h = absurd (false≢true h)
lt_of_key Greater d h = absurd (false≢true h)

-- where the key of a stands before that of b, a does
pub before_by_key : (a b : Spot) → is_lt (key_cmp a.key b.key) ≡ true → precedes a b ≡ true
before_by_key a b h = lt_of_key (key_cmp a.key b.key) (nat_cmp a.depth b.depth) h

-- two places with the same steps and depth, the key of a not before that of b
pub record IsTied (a b : Spot) : Type 0 where
  pub key : is_lt (key_cmp a.key b.key) ≡ false
  pub steps : a.key.steps ≡ b.key.steps
  pub depth : a.depth ≡ b.depth

-- two places, neither before the other, are tied
pub tied : (a b : Spot) → precedes a b ≡ false → precedes b a ≡ false → IsTied a b
tied a b h k =
    let o = equal_of (spot_cmp a b) h (sym (precedes_swapped b a) ∙ k) in
    let key = equal_one (key_cmp a.key b.key) (nat_cmp a.depth b.depth) o in
    record {
      key = key_not_before a b h;
      steps = same_list a.key.steps b.key.steps (equal_two (nat_cmp a.key.cost b.key.cost) (slice_cmp nat_cmp a.key.steps b.key.steps) key);
      depth = same_number a.depth b.depth (equal_two (key_cmp a.key b.key) (nat_cmp a.depth b.depth) o);
    }

then_up : (a b : Ordering) → is_gt a ≡ false → is_gt b ≡ false → is_gt (ordering_then a b) ≡ false
then_up Less b h k = refl
then_up Equal b h k = k
then_up Greater b h k = h

number_up : (m n : ℕ) → m ≤ n → is_gt (nat_cmp m n) ≡ false
number_up m n h = grind (arith, nat_tests, h)

list_up : (a b : List ℕ) → IsUpTo a b → is_gt (slice_cmp nat_cmp a b) ≡ false
list_up [] [] h = refl
list_up [] (y ∷ b) h = absurd h
list_up (x ∷ a) [] h = absurd h
list_up (x ∷ a) (y ∷ b) h = then_up (nat_cmp x y) (slice_cmp nat_cmp a b) (number_up x y h.0) (list_up a b h.1)

-- where the cost, the steps and the depth of a are each at most those of b, b is not before a
pub spot_up : (a b : Spot) → a.key.cost ≤ b.key.cost → IsUpTo a.key.steps b.key.steps → a.depth ≤ b.depth → precedes b a ≡ false
spot_up a b c s d =
    precedes_swapped b a
    ∙ then_up (key_cmp a.key b.key) (nat_cmp a.depth b.depth) (then_up (nat_cmp a.key.cost b.key.cost) (slice_cmp nat_cmp a.key.steps b.key.steps) (number_up _ _ c) (list_up _ _ s)) (number_up _ _ d)

-- a key that does not stand before another costs no less
pub cost_not_before : (a b : KeyView) → is_lt (key_cmp a b) ≡ false → b.cost ≤ a.cost
cost_not_before a b h =
    let c = key_of_lt (nat_cmp a.cost b.cost) (slice_cmp nat_cmp a.steps b.steps) h in
    not_less a.cost b.cost c where
      not_less : (m n : ℕ) → is_lt (nat_cmp m n) ≡ false → n ≤ m
      not_less m n e = grind (arith, nat_tests, e)

-- where the key of b is not before that of a, and a is no deeper than b, b does not stand before a
pub not_deeper : (a b : Spot) → is_lt (key_cmp b.key a.key) ≡ false → a.depth ≤ b.depth → precedes b a ≡ false
not_deeper a b h d =
    precedes_swapped b a ∙ then_up (key_cmp a.key b.key) (nat_cmp a.depth b.depth) (sym (ap is_lt (keys_are_ordered.antisymm b.key a.key) ∙ lt_turned (key_cmp a.key b.key)) ∙ h) (number_up _ _ d)

pub equal_spot : (a b : Spot) → precedes a b ≡ false → precedes b a ≡ false → spot_cmp a b ≡ Equal
equal_spot a b h k = equal_of (spot_cmp a b) h (sym (precedes_swapped b a) ∙ k)

-- where a stands before b, b does not stand before the place with the key of a that is one deeper
pub next_deeper : (a b : Spot) → precedes a b ≡ true → precedes b (record { key = a.key; depth = a.depth + 1 }) ≡ false
next_deeper a b h = by (is_lt (key_cmp a.key b.key))
    (λ e. not_both (record { key = a.key; depth = a.depth + 1 }) b (before_by_key (record { key = a.key; depth = a.depth + 1 }) b e))
    (λ e. elim (cases_lt a.depth b.depth) as (λ _. precedes b (record { key = a.key; depth = a.depth + 1 }) ≡ false) [
      | inl less ↦ not_deeper (record { key = a.key; depth = a.depth + 1 }) b (key_not_before b a (not_both a b h)) (omega (arith, less))
      | inr more ↦ absurd (false≢true (sym (not_deeper b a e more) ∙ h))
    ])
