-- The ranges of the parts, from those of the coordinates.
use Rattle.std.proofs.Common.{ℕ, ℤ, pos, ◌≡◌, ◌+◌, ◌*◌, ◌≤◌, ◌<◌, ◌^◌, ◌-ℤ◌, ◌*ℤ◌, ◌≤ℤ◌, ◌<ℤ◌, ◌∙◌, unsigned_abs, arith, ap, subst, sym, mul-le-mul, mul-le-mul_right, ⊎_elim}
use Rattle.std.proofs.lemmas.Bool.{cases_lt}
use Rattle.std.proofs.lemmas.Int.{ints, clamps}
use Rattle.std.specs.Int.{int_max}
use Rattle.interval_specs.specs.Ends.{Ends}
use Rattle.interval_specs.specs.Ranges.{MagnitudeUpTo, UpTo}
use Rattle.interval_specs.specs.Operations.{cut_low_at, difference_of, square_at}
use Rattle.interval_specs.specs.Roots.{square, root_below, sqrt_at}
use Rattle.interval_specs.proofs.Ranges.{carry_magnitude, carry_up_to, difference_magnitude, difference_within, magnitude_wider, sqrt_up_to, square_up_to, sum_up_to, up_to_wider}
use Rattle.interval_specs.proofs.Roots.{square_power, below_fits, below_greatest}
use Rattle.lab_parts.specs.Chroma.{IsChroma}
use Rattle.lab_parts.specs.Parts.{chroma_at, chroma_square}

-- ---- chroma

pub chroma_square_up_to : (n : ℕ) (a b : Ends) → 0 < n → MagnitudeUpTo (1000 * n) a → MagnitudeUpTo (1000 * n) b → UpTo (2 * 10 ^ 6 * n) (chroma_square n a b)
unfolding chroma_square
chroma_square_up_to n a b some s t =
    let p = square_up_to n (10 ^ 6 * n) (1000 * n) a some (omega arith) s.small in
    let q = square_up_to n (10 ^ 6 * n) (1000 * n) b some (omega arith) t.small in
    up_to_wider (10 ^ 6 * n + 10 ^ 6 * n) (2 * 10 ^ 6 * n) _ (omega arith) (sum_up_to (10 ^ 6 * n) (10 ^ 6 * n) (square_at n a) (square_at n b) p q)

chroma_up_to : (n : ℕ) (a b : Ends) → 0 < n → MagnitudeUpTo (1000 * n) a → MagnitudeUpTo (1000 * n) b → UpTo (1415 * n) (chroma_at n a b)
unfolding chroma_at
chroma_up_to n a b some s t = sqrt_up_to n (1415 * n) (2 * 10 ^ 6 * n) (chroma_square n a b) (omega arith) (chroma_square_up_to n a b some s t)

-- a square root that lies above 0 is at least 1000 n-ths
root_far : (n : ℕ) (x : Ends) → 10 ^ 6 ≤ n → pos 0 <ℤ (sqrt_at n x).lo → pos 1000 ≤ℤ (sqrt_at n x).lo
unfolding sqrt_at
root_far n x large above =
    let k = unsigned_abs x.lo in
    let r = root_below square (k * n) in
    let fits = below_fits square square_power (k * n) in
    let one : 1 ≤ r = omega (arith, ints, above) in
    let ones = mul-le-mul one one in
    ⊎_elim
    (λ l. let none : k * n ≤ 0 * n = mul-le-mul_right n (omega arith) in absurd (omega arith))
    (λ l. let units = mul-le-mul_right n l in let far = below_greatest square square_power (k * n) 1000 (omega arith) in omega (arith, ints, far))
    (cases_lt k 1)

chroma_far : (n : ℕ) (a b : Ends) → 10 ^ 6 ≤ n → pos 0 <ℤ (chroma_at n a b).lo → pos 1000 ≤ℤ (chroma_at n a b).lo
unfolding chroma_at
chroma_far n a b large above = root_far n (chroma_square n a b) large above

-- the chroma from its square, and its range
pub chroma_of_square : (n : ℕ) (a b q c : Ends) → 10 ^ 6 ≤ n → MagnitudeUpTo (1000 * n) a → MagnitudeUpTo (1000 * n) b → q ≡ chroma_square n a b → c ≡ sqrt_at n q → (c ≡ chroma_at n a b) × IsChroma n c
unfolding chroma_at
chroma_of_square n a b q c large s t e h =
    let is : c ≡ chroma_at n a b = h ∙ ap (λ x. sqrt_at n x) e in
    (is, subst (λ x. IsChroma n x) (sym is) (record { range = chroma_up_to n a b (omega arith) s t; far = chroma_far n a b large }))

-- ---- the differences

-- the difference of two coordinates
pub coordinates_delta : (n : ℕ) (a b r : Ends) → MagnitudeUpTo (1000 * n) a → MagnitudeUpTo (1000 * n) b → r ≡ difference_of a b → MagnitudeUpTo (2000 * n) r
coordinates_delta n a b r s t e = carry_magnitude (2000 * n) r (difference_of a b) e (magnitude_wider (1000 * n + 1000 * n) (2000 * n) _ (omega arith) (difference_magnitude (1000 * n) (1000 * n) a b s t))

-- dC
pub chroma_delta : (n : ℕ) (c2 c1 r : Ends) → UpTo (1415 * n) c2 → UpTo (1415 * n) c1 → r ≡ difference_of c2 c1 → MagnitudeUpTo (1415 * n) r
chroma_delta n c2 c1 r u v e = carry_magnitude (1415 * n) r (difference_of c2 c1) e (difference_within (1415 * n) c2 c1 u v)

pub squares_up_to : (n : ℕ) (a b : Ends) → 0 < n → MagnitudeUpTo (2000 * n) a → MagnitudeUpTo (2000 * n) b → UpTo (8 * 10 ^ 6 * n) (chroma_square n a b)
unfolding chroma_square
squares_up_to n a b some s t =
    let p = square_up_to n (4 * 10 ^ 6 * n) (2000 * n) a some (omega arith) s.small in
    let q = square_up_to n (4 * 10 ^ 6 * n) (2000 * n) b some (omega arith) t.small in
    up_to_wider (4 * 10 ^ 6 * n + 4 * 10 ^ 6 * n) (8 * 10 ^ 6 * n) _ (omega arith) (sum_up_to (4 * 10 ^ 6 * n) (4 * 10 ^ 6 * n) (square_at n a) (square_at n b) p q)

-- the difference of two intervals that are not below 0, cut at 0, is at most the bound of the first
cut_between : (n k : ℕ) (x y u v : ℤ) → x ≤ℤ y → y ≤ℤ pos k → pos 0 ≤ℤ u → u ≤ℤ v → UpTo k (record { lo = int_max (x -ℤ v) (pos 0 *ℤ pos n); hi = int_max (y -ℤ u) (pos 0 *ℤ pos n) })
cut_between n k x y u v o numerator z p = record { not_negative = omega (arith, ints, clamps); ordered = omega (arith, ints, clamps); below = omega (arith, ints, clamps) }

cut_difference_up_to : (n k : ℕ) (a b : Ends) → UpTo k a → pos 0 ≤ℤ b.lo → b.lo ≤ℤ b.hi → UpTo k (cut_low_at n (pos 0) (difference_of a b))
unfolding cut_low_at difference_of
cut_difference_up_to n k a b u z o = cut_between n k a.lo a.hi b.lo b.hi u.ordered u.below z o

pub chroma_delta_square : (n : ℕ) (d p : Ends) → 0 < n → MagnitudeUpTo (1415 * n) d → p ≡ square_at n d → UpTo (2002225 * n) p
chroma_delta_square n d p some s e = carry_up_to (2002225 * n) p (square_at n d) e (square_up_to n (2002225 * n) (1415 * n) d some (omega arith) s.small)

-- dH^2
pub hue_square_range : (n : ℕ) (a d p r : Ends) → 10 ^ 6 ≤ n → UpTo (8 * 10 ^ 6 * n) a → MagnitudeUpTo (1415 * n) d → p ≡ square_at n d → r ≡ cut_low_at n (pos 0) (difference_of a p) → UpTo (8 * 10 ^ 6 * n) r
hue_square_range n a d p r large u s e h =
    let v = chroma_delta_square n d p (omega arith) s e in
    carry_up_to (8 * 10 ^ 6 * n) r (cut_low_at n (pos 0) (difference_of a p)) h (cut_difference_up_to n (8 * 10 ^ 6 * n) a p u v.not_negative v.ordered)
