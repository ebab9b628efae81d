-- Cases on a test of two natural numbers.
use Rattle.std.proofs.Common.{◌≡◌, ◌<◌, ◌≤◌, ℕ, Bool, true, false, nat_lt, nat_le, refl, arith}
use Rattle.std.proofs.lemmas.Bool.Decides.{nat_tests}

pub by_less : (P : Bool → Type 0) (a b : ℕ) → (a < b → P true) → (b ≤ a → P false) → P (nat_lt a b)
by_less P a b p q = go (nat_lt a b) refl
  where
    go : (t : Bool) → nat_lt a b ≡ t → P t
    go true e = p (grind (arith, nat_tests, e))
    go false e = q (grind (arith, nat_tests, e))

pub by_most : (P : Bool → Type 0) (a b : ℕ) → (a ≤ b → P true) → (b < a → P false) → P (nat_le a b)
by_most P a b p q = go (nat_le a b) refl
  where
    go : (t : Bool) → nat_le a b ≡ t → P t
    go true e = p (grind (arith, nat_tests, e))
    go false e = q (grind (arith, nat_tests, e))

pub most_test : (a b : ℕ) → a ≤ b → nat_le a b ≡ true
most_test a b h = grind (arith, nat_tests, h)

pub not_most_test : (a b : ℕ) → b < a → nat_le a b ≡ false
not_most_test a b h = grind (arith, nat_tests, h)

pub less_test : (a b : ℕ) → a < b → nat_lt a b ≡ true
less_test a b h = grind (arith, nat_tests, h)

pub not_less_test : (a b : ℕ) → b ≤ a → nat_lt a b ≡ false
not_less_test a b h = grind (arith, nat_tests, h)
