-- Keys and recipes, neither of which comes before the other.
use Rattle.std.proofs.Common.{◌≡◌, ℕ, List, false, refl, sym, ap, ◌∙◌, arith}
use Rattle.std.proofs.lemmas.Bool.{false≢true}
use Rattle.std.proofs.lemmas.Bool.Decides.{nat_tests}
use Rattle.std.proofs.lemmas.Slice.Eq.{bytes_eq-Decides}
use Rattle.std.proofs.lemmas.Map.Text.{is_eq-slice_cmp}
use Rattle.std.specs.Cmp.Lexicographic.{slice_cmp}
use Rattle.std.specs.Ordering.{is_eq, is_gt, is_lt, nat_cmp, ordering_reverse, ordering_then}
use Rattle.std.specs.declared.cmp.Ordering.{Ordering}
use Rattle.std.specs.declared.cmp.Ordering.TheVariants.{Equal, Greater, Less}
use Rattle.price_grid.specs.Order.{KeyView, key_cmp}
use Rattle.price_grid.proofs.CostLaws.{keys_are_ordered}

pub lt_turned : (o : Ordering) → is_lt (ordering_reverse o) ≡ is_gt o
lt_turned Less = refl
lt_turned Equal = refl
lt_turned Greater = refl

pub equal_of : (o : Ordering) → is_lt o ≡ false → is_gt o ≡ false → o ≡ Equal
equal_of Less h k = absurd (false≢true (sym h))
equal_of Equal h k = refl
equal_of Greater h k = absurd (false≢true (sym k))

pub equal_one : (k d : Ordering) → ordering_then k d ≡ Equal → k ≡ Equal
equal_one Less d h = h
equal_one Equal d h = refl
equal_one Greater d h = h

pub equal_two : (k d : Ordering) → ordering_then k d ≡ Equal → d ≡ Equal
equal_two Less d h = absurd (false≢true (ap is_eq h))
equal_two Equal d h = h
equal_two Greater d h = absurd (false≢true (ap is_eq h))

pub same_number : (m n : ℕ) → nat_cmp m n ≡ Equal → m ≡ n
same_number m n h = grind (arith, nat_tests, h)

pub same_list : (a b : List ℕ) → slice_cmp nat_cmp a b ≡ Equal → a ≡ b
same_list a b h = (bytes_eq-Decides a b).0 (sym (is_eq-slice_cmp a b) ∙ ap is_eq h)

pub tied_keys : (a b : KeyView) → is_lt (key_cmp a b) ≡ false → is_lt (key_cmp b a) ≡ false → a.steps ≡ b.steps
tied_keys a b h k =
    let o = equal_of (key_cmp a b) h (sym (ap is_lt (keys_are_ordered.antisymm b a) ∙ lt_turned (key_cmp a b)) ∙ k) in
    same_list a.steps b.steps (equal_two (nat_cmp a.cost b.cost) (slice_cmp nat_cmp a.steps b.steps) o)
