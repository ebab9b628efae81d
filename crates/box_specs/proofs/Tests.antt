-- Tests of numbers, and what follows from the results of tests.
use Rattle.std.proofs.Common.{◌≡◌, ◌<◌, ◌≤◌, ◌==◌, not, ℕ, Bool, true, false, nat_le, nat_lt, refl, sym, ap, arith}
use Rattle.std.specs.Prelude.{Option, Some, None}
use Rattle.std.proofs.lemmas.Bool.{false≢true, true≢false}
use Rattle.std.proofs.lemmas.Bool.Decides.{nat_tests}

pub at_most : (m n : ℕ) → nat_le m n ≡ true → m ≤ n
at_most m n h = grind (arith, nat_tests, h)

pub above : (m n : ℕ) → nat_le m n ≡ false → n < m
above m n h = grind (arith, nat_tests, h)

pub le_test : (m n : ℕ) → m ≤ n → nat_le m n ≡ true
le_test m n h = grind (arith, nat_tests, h)

pub not_le_test : (m n : ℕ) → n < m → nat_le m n ≡ false
not_le_test m n h = grind (arith, nat_tests, h)

pub test_lt : (m n : ℕ) → nat_lt m n ≡ true → m < n
test_lt m n h = grind (arith, nat_tests, h)

pub test_ge : (m n : ℕ) → nat_lt m n ≡ false → n ≤ m
test_ge m n h = grind (arith, nat_tests, h)

pub lt_test : (m n : ℕ) → m < n → nat_lt m n ≡ true
lt_test m n h = grind (arith, nat_tests, h)

pub ge_test : (m n : ℕ) → n ≤ m → nat_lt m n ≡ false
ge_test m n h = grind (arith, nat_tests, h)

pub tested : (m n : ℕ) → m == n ≡ true → m ≡ n
tested m n h = grind (arith, nat_tests, h)

pub less_unless : (m n : ℕ) → m == n ≡ false → m ≤ n → m < n
less_unless m n h k = grind (arith, nat_tests, h, k)

pub not_true : (b : Bool) → not b ≡ true → b ≡ false
not_true true h = absurd (false≢true h)
not_true false h = refl

pub not_false : (b : Bool) → not b ≡ false → b ≡ true
not_false true h = refl
not_false false h = absurd (true≢false h)

-- two cases of a test
pub by : {P : Type 0} (b : Bool) → (b ≡ true → P) → (b ≡ false → P) → P
by true f g = f refl
by false f g = g refl

pub both_ways : (s t : Bool) → (s ≡ true → t ≡ true) → (t ≡ true → s ≡ true) → s ≡ t
both_ways true t f g = sym (f refl)
both_ways false true f g = g refl
both_ways false false f g = refl

pub some_same : {X : Type 0} (a b : X) → Some a ≡ Some b → a ≡ b
some_same {X} a b e = ap take e where
  take : Option X → X
  take None = a
  take (Some x) = x
