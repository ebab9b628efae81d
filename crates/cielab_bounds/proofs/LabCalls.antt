-- What the calls in `lab` require and ensure, over plain intervals.
use Rattle.std.proofs.Common.{ℕ, ℤ, pos, ◌≡◌, ◌+◌, ◌*◌, ◌^◌, ◌≤◌, ◌∙◌, unsigned_abs, arith, mul-le-mul}
use Rattle.interval_specs.specs.Ends.{Ends, one_at, magnitude_of}
use Rattle.interval_specs.specs.Ranges.{UpTo}
use Rattle.interval_specs.specs.Operations.{difference_of, multiple_of}
use Rattle.interval_specs.proofs.Ranges.{carry_magnitude, difference_within, multiple_magnitude, magnitude_of_up_to, one_magnitude}
use Rattle.cielab_bounds.specs.Cielab.{f_at, lightness_at, red_green_at, yellow_blue_at, lab_at}

pub lightness_room : (n : ℕ) (y p q : Ends) → n ≤ 10 ^ 12 → UpTo (2 * n) y → p ≡ multiple_of (pos 116) y → q ≡ multiple_of (pos 16) (one_at n) → magnitude_of p + magnitude_of q ≤ 10 ^ 25
lightness_room n y p q few u e h =
    let s = carry_magnitude (2 * n * 116) p _ e (multiple_magnitude (2 * n) (pos 116) y (magnitude_of_up_to (2 * n) y u)) in
    let t = carry_magnitude (n * 16) q _ h (multiple_magnitude n (pos 16) (one_at n) (one_magnitude n)) in
    let a : magnitude_of p ≤ 2 * n * 116 = s.small in
    let b : magnitude_of q ≤ n * 16 = t.small in
    omega arith

pub opponent_room : (n : ℕ) (k : ℤ) (f g r : Ends) → n ≤ 10 ^ 12 → unsigned_abs k ≤ 500 → UpTo (2 * n) f → UpTo (2 * n) g → r ≡ difference_of f g → magnitude_of r * unsigned_abs k ≤ 10 ^ 25
opponent_room n k f g r few h u v e =
    let s = carry_magnitude (2 * n) r _ e (difference_within (2 * n) f g u v) in
    let a : magnitude_of r ≤ 2 * n = s.small in
    let m = mul-le-mul a h in
    omega arith

pub lab_is : (n : ℕ) (x y z fx fy fz l a b : Ends) → fx ≡ f_at n x → fy ≡ f_at n y → fz ≡ f_at n z → l ≡ difference_of (multiple_of (pos 116) fy) (multiple_of (pos 16) (one_at n)) → a ≡ multiple_of (pos 500) (difference_of fx fy) → b ≡ multiple_of (pos 200) (difference_of fy fz) → record { l = l; a = a; b = b } ≡ lab_at n (record { x = x; y = y; z = z })
unfolding lightness_at red_green_at yellow_blue_at
lab_is n x y z fx fy fz l a b p q r u v w =
    let l' = u ∙ (λ i. difference_of (multiple_of (pos 116) (q i)) (multiple_of (pos 16) (one_at n))) in
    let a' = v ∙ (λ i. multiple_of (pos 500) (difference_of (p i) (q i))) in
    let b' = w ∙ (λ i. multiple_of (pos 200) (difference_of (q i) (r i))) in
    λ i. record { l = l' i; a = a' i; b = b' i }
