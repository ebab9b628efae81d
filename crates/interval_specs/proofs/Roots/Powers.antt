-- Roots by their inequalities: files that use this one do not unfold the two functions.
use Rattle.std.proofs.Common.{ℕ, suc, ◌≡◌, true, false, cond, ◌+◌, ◌≤◌, ◌<◌, refl, ap, arith, ⊎_elim, Bool, mul-le-mul, zero, nat_le}
use Rattle.std.proofs.lemmas.Bool.{cases_lt}
use Rattle.std.proofs.lemmas.Bool.Decides.{nat_tests}
use Rattle.interval_specs.specs.Roots.{square, cube, greatest_upto, root_below, root_above}

-- a power: it is 0 at 0, rises with its base, and is never less than its base
pub record IsPower (power : ℕ → ℕ) : Type 0 where
  pub begins : power 0 ≡ 0
  pub covers : (r : ℕ) → r ≤ power r
  pub rises : (r s : ℕ) → r < s → power r < power s

pub square_power : IsPower square
square_power = record {
  begins = refl;
  covers = λ r. grind arith;
  rises = λ r s h. grind arith;
}

pub cube_power : IsPower cube
cube_power = record {
  begins = refl;
  covers = λ r. grind arith;
  rises = λ r s h. let k : r + 1 ≤ s = omega arith in let q = mul-le-mul k k in let c = mul-le-mul q k in omega arith;
}

step_fits : (power : ℕ → ℕ) (k n before : ℕ) (b : Bool) → (b ≡ true → power (suc k) ≤ n) → power before ≤ n → power (cond b (suc k) before) ≤ n
step_fits power k n before true fits h = fits refl
step_fits power k n before false fits h = h

le_true : (m n : ℕ) → nat_le m n ≡ true → m ≤ n
le_true m n h = grind (arith, nat_tests)

le_false : (m n : ℕ) → nat_le m n ≡ false → n < m
le_false m n h = grind (arith, nat_tests)

upto_fits : (power : ℕ → ℕ) → IsPower power → (k n : ℕ) → power (greatest_upto power k n) ≤ n
unfolding greatest_upto
upto_fits power p zero n = let b = p.begins in omega arith
upto_fits power p (suc k) n = step_fits power k n (greatest_upto power k n) (nat_le (power (suc k)) n) (le_true (power (suc k)) n) (upto_fits power p k n)

step_greatest : (power : ℕ → ℕ) (k n r before : ℕ) (b : Bool) → (b ≡ false → n < power (suc k)) → r ≤ suc k → power r ≤ n → (r ≤ k → r ≤ before) → r ≤ cond b (suc k) before
step_greatest power k n r before true fails h f rest = h
step_greatest power k n r before false fails h f rest =
    ⊎_elim (λ l. let e : r ≡ suc k = omega arith in let s = ap power e in let m = fails refl in absurd (omega arith)) rest (cases_lt k r)

upto_greatest : (power : ℕ → ℕ) (k n r : ℕ) → r ≤ k → power r ≤ n → r ≤ greatest_upto power k n
unfolding greatest_upto
upto_greatest power zero n r h f = h
upto_greatest power (suc k) n r h f = step_greatest power k n r (greatest_upto power k n) (nat_le (power (suc k)) n) (le_false (power (suc k)) n) h f (λ l. upto_greatest power k n r l f)

-- the power of the root rounded down is at most n, and that of no greater number is
pub below_fits : (power : ℕ → ℕ) → IsPower power → (n : ℕ) → power (root_below power n) ≤ n
unfolding root_below
below_fits power p n = upto_fits power p n n

pub below_greatest : (power : ℕ → ℕ) → IsPower power → (n r : ℕ) → power r ≤ n → r ≤ root_below power n
unfolding root_below
below_greatest power p n r h = let c = p.covers r in upto_greatest power n n r (omega arith) h

-- powers rise, so that a number with a lesser power is less
pub falls_back : (power : ℕ → ℕ) → IsPower power → (r s : ℕ) → power r < power s → r < s
falls_back power p r s h = ⊎_elim (λ l. l) (λ l. ⊎_elim (λ m. let k = p.rises s r m in absurd (omega arith)) (λ m. let e : r ≡ s = omega arith in let k = ap power e in absurd (omega arith)) (cases_lt s r)) (cases_lt r s)

-- the power of the root rounded up is at least n, and that of no lesser number is
pub above_fits : (power : ℕ → ℕ) → IsPower power → (n : ℕ) → n ≤ power (root_above power n)
unfolding root_above
above_fits power p zero = omega arith
above_fits power p (suc n) = ⊎_elim (λ l. omega arith) (λ l. let g = below_greatest power p n (suc (root_below power n)) (omega arith) in absurd (omega arith)) (cases_lt n (power (suc (root_below power n))))

pub above_least : (power : ℕ → ℕ) → IsPower power → (n r : ℕ) → n ≤ power r → root_above power n ≤ r
unfolding root_above
above_least power p zero r h = omega arith
above_least power p (suc n) r h = let f = below_fits power p n in let l = falls_back power p (root_below power n) r (omega arith) in omega arith

-- a number that satisfies the inequalities of a root is the root
pub below_is : (power : ℕ → ℕ) → IsPower power → (n r : ℕ) → power r ≤ n → ((s : ℕ) → power s ≤ n → s ≤ r) → r ≡ root_below power n
below_is power p n r fits greatest =
    let a = below_greatest power p n r fits in
    let b = greatest (root_below power n) (below_fits power p n) in
    omega arith

pub above_is : (power : ℕ → ℕ) → IsPower power → (n r : ℕ) → n ≤ power r → ((s : ℕ) → n ≤ power s → r ≤ s) → r ≡ root_above power n
above_is power p n r fits least =
    let a = above_least power p n r fits in
    let b = least (root_above power n) (above_fits power p n) in
    omega arith

-- the root of a number, rounded down, is at most the root of a greater one, rounded up
pub below_le_above : (power : ℕ → ℕ) → IsPower power → (n m : ℕ) → n ≤ m → root_below power n ≤ root_above power m
below_le_above power p n m h =
    let a = below_fits power p n in
    let b = above_fits power p m in
    ⊎_elim (λ l. let k = p.rises (root_above power m) (root_below power n) l in absurd (omega arith)) (λ l. l) (cases_lt (root_above power m) (root_below power n))
