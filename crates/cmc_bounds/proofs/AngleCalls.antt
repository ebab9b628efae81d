-- What the calls in the constants and in the two forms of T require and ensure, over plain
-- intervals.
use Rattle.std.proofs.Common.{ℕ, ℤ, pos, ◌≡◌, ◌∙◌, ◌+◌, ◌*◌, ◌^◌, ◌≤◌, ◌<◌, unsigned_abs, arith, ap, subst, sym, lit<, lit≤, mul-le-mul, mul-le-mul_left, mul-le-mul_right}
use Rattle.interval_specs.specs.Ends.{Ends, magnitude_of}
use Rattle.interval_specs.specs.Ranges.{MagnitudeUpTo, UpTo}
use Rattle.interval_specs.specs.Operations.{fraction_of, product_at, ratio_at}
use Rattle.interval_specs.proofs.Order.{le_pos}
use Rattle.interval_specs.proofs.Ranges.{carry_magnitude, carry_up_to, fraction_up_to, ratio_up_to}
use Rattle.cmc_specs.specs.Cmc.{bracket}
use Rattle.cmc_specs.proofs.Ranges.{part_magnitude}
use Rattle.lab_parts.proofs.Rooms.{sum_room, unit_magnitude}

pub bracket_room : (n low : ℕ) (z : ℤ) → z ≡ pos low → low < 10 ^ 12 → n ≤ 10 ^ 12 → unsigned_abs z * n ≤ 10 ^ 37
bracket_room n low z e h few = subst (λ x. unsigned_abs x * n ≤ 10 ^ 37) (sym e) (let l : low ≤ 10 ^ 12 = omega arith in let m = mul-le-mul l few in omega arith)

pub bracket_low : (n low : ℕ) (z x : ℤ) (e : Ends) → z ≡ pos low → e ≡ ratio_at n z (10 ^ 12) → x ≡ e.lo → x ≡ (bracket n low).lo
unfolding bracket ratio_at
bracket_low n low z x e k h p = p ∙ ap (λ t. t.lo) h ∙ ap (λ t. (ratio_at n t (10 ^ 12)).lo) k

pub bracket_high : (n low : ℕ) (z x : ℤ) (e : Ends) → z ≡ pos (low + 1) → e ≡ ratio_at n z (10 ^ 12) → x ≡ e.hi → x ≡ (bracket n low).hi
unfolding bracket ratio_at
bracket_high n low z x e k h p = p ∙ ap (λ t. t.hi) h ∙ ap (λ t. (ratio_at n t (10 ^ 12)).hi) k

-- two products of a coordinate with a constant
pub parts_room : (n : ℕ) (a b c s p q : Ends) → 10 ^ 6 ≤ n → n ≤ 10 ^ 12 → MagnitudeUpTo (1000 * n) a → MagnitudeUpTo (1000 * n) b → UpTo n c → UpTo n s → p ≡ product_at n a c → q ≡ product_at n b s → magnitude_of p + magnitude_of q ≤ 10 ^ 25
parts_room n a b c s p q large few t u v w e h =
    let some : 0 < n = omega arith in
    let x = carry_magnitude (1000 * n) p _ e (part_magnitude n a c some t v) in
    let y = carry_magnitude (1000 * n) q _ h (part_magnitude n b s some u w) in
    sum_room n 1000 1000 p q few (lit≤ tt) (lit≤ tt) x.small y.small

-- the two parts of a form
pub form_room : (n p num : ℕ) (k l r : Ends) → n ≤ 10 ^ 12 → p ≤ 100 → num ≤ 10 → UpTo n k → l ≡ ratio_at n (pos p) 100 → r ≡ fraction_of num 10 k → magnitude_of l + magnitude_of r ≤ 10 ^ 25
form_room n p num k l r few small part u e h =
    let first = mul-le-mul_right n small in
    let second = mul-le-mul_left n part in
    let x = carry_up_to n l _ e (ratio_up_to n n (pos p) 100 (lit< tt) (le_pos p) (omega arith)) in
    let y = carry_up_to n r _ h (fraction_up_to n n num 10 k (lit< tt) (omega arith) u) in
    sum_room n 1 1 l r few (lit≤ tt) (lit≤ tt) (unit_magnitude n l x) (unit_magnitude n r y)
