-- Bounds on the differences of the upper ends of K/S, of a contribution and of an addition between a
-- scale n and the finer scale m * n.
use Rattle.std.proofs.Common.{⊎_elim, Bool, true, false, nat_lt, nat_eq, ◌&&◌, if◌then◌else◌, map, sym, ap, ◌≡◌, ◌+◌, ◌-◌, ◌*◌, ◌/◌, ◌^◌, ◌≤◌, ◌<◌, ◌≤ℤ◌, ◌+ℤ◌, ◌-ℤ◌, ◌*ℤ◌, neg_ℤ, ℕ, ℤ, pos, negsuc, List, [], ◌∷◌, All, get_or, length, refl, subst, zero-add, arith}
use Rattle.std.specs.Prelude.{slice_index}
use Rattle.std.specs.Int.{div_ceil, int_max}
use Rattle.std.proofs.lemmas.Int.{ints}
use Rattle.std.proofs.lemmas.Grind.{div_ceil_times}
use Rattle.std.proofs.lemmas.List.Elements.{All-head, All-tail}
use Rattle.std.proofs.lemmas.List.Sums.{sum_by-cons}
use Rattle.std.proofs.Math.Nat.{mul-le-mul_left, mul-le-mul_right, le_of_mul-le-mul_left}
use Rattle.interval_specs.specs.Ends.{Ends}
use Rattle.interval_specs.specs.Operations.{ratio_at, sum_of, difference_of, multiple_of, fraction_of, cut_low_at}
use Rattle.interval_specs.specs.Rounding.{floor_over, ceil_over}
use Rattle.interval_specs.proofs.Order.{mono_left, trans_ℤ, mul-add_ℤ, mul-neg_ℤ, mul_swap_ℤ, either_max, max_left, max_right}
use Rattle.interval_specs.proofs.Rounds.{floor_le_ceil, floor_of_natural, ceil_of_natural}
use Rattle.spectral_tables.specs.Curve.{IsCurve}
use Rattle.ks_curves.specs.KubelkaMunk.{ks_at}
use Rattle.ks_curves.specs.Dye.{Dyeing, DyeData, IsDye}
use Rattle.ks_curves.specs.Calibration.{weighted_addition, weighted_sum, numerator_at, square_sum, line_at, node_at, nodes_at, in_order, value_by, value_over_by, addition_by, addition_over, contribution_range_at}
use Rattle.ks_curves.specs.declared.kind.Calibration.{Calibration}
use Rattle.ks_curves.specs.declared.kind.Calibration.TheVariants.{Line, Broken}
use Rattle.ks_curves.specs.BrokenLine.{Node, origin, between_at, value_from, widened, broken_over}
use Rattle.ks_curves.specs.StoredNode.{IsAdded}
use Rattle.ks_curves.specs.Slope.{unit_sum}
use Rattle.std.proofs.lemmas.Bool.{cases_lt}
use Rattle.interval_specs.specs.Operations.{hull_of}
use Rattle.interval_specs.specs.Ends.{nothing}
use Rattle.ks_curves.proofs.BrokenLaws.{node_added}
use Rattle.ks_curves.proofs.Chains.{from_next, before_next}
use Rattle.ks_curves.proofs.NodeFacts.{order_some}
use Rattle.ks_curves.proofs.Orders.{Rises, order_all, order_rises}
use Rattle.ks_curves.proofs.ContributionLaws.{numerator_not_negative, numerator_ordered}
use Rattle.ks_curves.proofs.Values.{units_under_squares, squares_positive}

-- x at scale n is at most e finer parts above y at scale m * n
abbrev pub IsNearAbove : ℕ → ℕ → ℤ → ℤ → Type 0
IsNearAbove m e x y = (pos m *ℤ x) ≤ℤ (y +ℤ pos e)

-- ---- quotients of natural numbers

-- a is at most z / q rounded up and b at least z' / q: where m * z is at most k * q above z', m * a
-- is at most k + m above b
up_near : (m z z' k q a b : ℕ) → 0 < q → a * q < z + q → z' ≤ b * q → m * z ≤ z' + k * q → m * a ≤ b + (k + m)
up_near m z z' k q a b some below above near =
    let scaled : m * (a * q) ≤ m * (z + q) = mul-le-mul_left m (omega (arith, below)) in
    le_of_mul-le-mul_left {k = q} (omega (arith, scaled, above, near)) some

ceil_near : (m z z' k q : ℕ) → 0 < q → m * z ≤ z' + k * q → IsNearAbove m (k + m) (ceil_over (pos z) q) (ceil_over (pos z') q)
ceil_near m z z' k q some near =
    let a = div_ceil z q in
    let b = div_ceil z' q in
    let fits = div_ceil_times z q some in
    let fits' = div_ceil_times z' q some in
    let coarse : pos a ≡ ceil_over (pos z) q = ceil_of_natural z q a some refl in
    let fine : pos b ≡ ceil_over (pos z') q = ceil_of_natural z' q b some refl in
    let h : m * a ≤ b + (k + m) = up_near m z z' k q a b some fits.1 fits'.0 near in
    let near_pos : IsNearAbove m (k + m) (pos a) (pos b) = omega (arith, ints, h) in
    subst (λ x. IsNearAbove m (k + m) x (ceil_over (pos z') q)) coarse (subst (λ y. IsNearAbove m (k + m) (pos a) y) fine near_pos)

-- a + 1 is at least z / q and b at most z' / q: where z' is at most k * q above m * z, b is at most
-- k + m above m * a
down_near : (m z z' k q a b : ℕ) → 0 < q → z ≤ a * q + q → b * q ≤ z' → z' ≤ m * z + k * q → b ≤ m * a + (k + m)
down_near m z z' k q a b some above below near =
    let scaled : m * z ≤ m * (a * q + q) = mul-le-mul_left m above in
    le_of_mul-le-mul_left {k = q} (omega (arith, scaled, below, near)) some

-- y at scale m * n is at most e finer parts above x at scale n
abbrev pub IsNearBelow : ℕ → ℕ → ℤ → ℤ → Type 0
IsNearBelow m e x y = y ≤ℤ (pos m *ℤ x +ℤ pos e)

floor_near : (m z z' k q : ℕ) → 0 < q → z' ≤ m * z + k * q → IsNearBelow m (k + m) (floor_over (pos z) q) (floor_over (pos z') q)
floor_near m z z' k q some near =
    let h : z' / q ≤ m * (z / q) + (k + m) = down_near m z z' k q (z / q) (z' / q) some (omega arith) (omega arith) near in
    let near_pos : pos (z' / q) ≤ℤ (pos m *ℤ pos (z / q) +ℤ pos (k + m)) = omega (arith, ints, h) in
    subst (λ x. x ≤ℤ (pos m *ℤ floor_over (pos z) q +ℤ pos (k + m))) (floor_of_natural z' q) (subst (λ y. pos (z' / q) ≤ℤ (pos m *ℤ y +ℤ pos (k + m))) (floor_of_natural z q) near_pos)

-- ---- K/S

pub ks_near : (n m r : ℕ) → 0 < r → IsNearAbove m m (ks_at n r).hi (ks_at (m * n) r).hi
unfolding ks_at ratio_at
ks_near n m r some =
    let s = (10 ^ 6 - r) * (10 ^ 6 - r) in
    let q = 2 * 10 ^ 6 * r in
    subst (λ e. IsNearAbove m e (ceil_over (pos (s * n)) q) (ceil_over (pos (s * (m * n))) q)) (zero-add m) (ceil_near m (s * n) (s * (m * n)) 0 q (omega arith) (omega arith))

ks_near_low : (n m r : ℕ) → 0 < r → (ks_at (m * n) r).lo ≤ℤ (pos m *ℤ (ks_at n r).lo +ℤ pos m)
unfolding ks_at ratio_at
ks_near_low n m r some =
    let s = (10 ^ 6 - r) * (10 ^ 6 - r) in
    let q = 2 * 10 ^ 6 * r in
    subst (λ e. IsNearBelow m e (floor_over (pos (s * n)) q) (floor_over (pos (s * (m * n))) q)) (zero-add m) (floor_near m (s * n) (s * (m * n)) 0 q (omega arith) (omega arith))

ks_ordered : (n r : ℕ) → (ks_at n r).lo ≤ℤ (ks_at n r).hi
unfolding ks_at ratio_at
ks_ordered n r = floor_le_ceil _ _ (2 * 10 ^ 6 * r) (omega (arith, ints))

-- ---- sums, differences and multiples

sum_near : (p q y z : ℤ) (e f : ℕ) → p ≤ℤ (y +ℤ pos e) → q ≤ℤ (z +ℤ pos f) → (p +ℤ q) ≤ℤ ((y +ℤ z) +ℤ pos (e + f))
sum_near p q y z e f h k = omega (arith, ints)

pub add_near : (m e f : ℕ) (w x y z : ℤ) → IsNearAbove m e w y → IsNearAbove m f x z → IsNearAbove m (e + f) (w +ℤ x) (y +ℤ z)
add_near m e f w x y z h k = rw mul-add_ℤ (sum_near (pos m *ℤ w) (pos m *ℤ x) y z e f h k)

turned : (x y : ℤ) (e : ℕ) → y ≤ℤ (x +ℤ pos e) → neg_ℤ x ≤ℤ (neg_ℤ y +ℤ pos e)
turned x y e h = omega (arith, ints)

minus_is : (x y : ℤ) → (x -ℤ y) ≡ (x +ℤ neg_ℤ y)
minus_is x y = omega (arith, ints)

subtract_near : (m e f : ℕ) (w x y z : ℤ) → IsNearAbove m e w y → z ≤ℤ (pos m *ℤ x +ℤ pos f) → IsNearAbove m (e + f) (w -ℤ x) (y -ℤ z)
subtract_near m e f w x y z h k =
    let back : IsNearAbove m f (neg_ℤ x) (neg_ℤ z) = rw mul-neg_ℤ (turned (pos m *ℤ x) z f k) in
    rw (minus_is w x, minus_is y z) (add_near m e f w (neg_ℤ x) y (neg_ℤ z) h back)

times_near : (m e u : ℕ) (x y : ℤ) → IsNearAbove m e x y → IsNearAbove m (u * e) (pos u *ℤ x) (pos u *ℤ y)
times_near m e u x y h =
    let k = mono_left u (pos m *ℤ x) (y +ℤ pos e) h in
    subst (λ z. z ≤ℤ (pos u *ℤ y +ℤ pos (u * e))) (mul_swap_ℤ (pos u) (pos m) x) (subst (λ z. (pos u *ℤ (pos m *ℤ x)) ≤ℤ z) (mul-add_ℤ (pos u) y (pos e)) k)

-- a number that is near above another stays so where it is lowered
below_near : (m e : ℕ) (w x y : ℤ) → w ≤ℤ x → IsNearAbove m e x y → IsNearAbove m e w y
below_near m e w x y le h = trans_ℤ (pos m *ℤ w) (pos m *ℤ x) (y +ℤ pos e) (mono_left m w x le) h

further : (m e : ℕ) (x y z : ℤ) → y ≤ℤ z → IsNearAbove m e x y → IsNearAbove m e x z
further m e x y z le h = over (pos m *ℤ x) y z e le h
  where
    over : (p y z : ℤ) (e : ℕ) → y ≤ℤ z → p ≤ℤ (y +ℤ pos e) → p ≤ℤ (z +ℤ pos e)
    over p y z e le h = omega (arith, ints)

-- ---- the numerator

weighted_near : (n m : ℕ) (substrate : List ℕ) (wave : ℕ) (d : Dyeing) → 0 < slice_index substrate wave → 0 < slice_index d.1 wave
    → IsNearAbove m (d.0 * (m + m)) (weighted_addition n substrate wave d).hi (weighted_addition (m * n) substrate wave d).hi
unfolding weighted_addition multiple_of difference_of
weighted_near n m substrate wave d some some' =
    let a = ks_at n (slice_index d.1 wave) in
    let b = ks_at n (slice_index substrate wave) in
    let a' = ks_at (m * n) (slice_index d.1 wave) in
    let b' = ks_at (m * n) (slice_index substrate wave) in
    let u = pos d.0 in
    let low = u *ℤ (a'.lo -ℤ b'.hi) in
    let high = u *ℤ (a'.hi -ℤ b'.lo) in
    let near_difference = subtract_near m m m a.hi b.lo a'.hi b'.lo (ks_near n m (slice_index d.1 wave) some') (ks_near_low n m (slice_index substrate wave) some) in
    let upper = further m (d.0 * (m + m)) (u *ℤ (a.hi -ℤ b.lo)) high (int_max low high) (max_right low high) (times_near m (m + m) d.0 (a.hi -ℤ b.lo) (a'.hi -ℤ b'.lo) near_difference) in
    let ordered = ends_ordered a b (ks_ordered n (slice_index d.1 wave)) (ks_ordered n (slice_index substrate wave)) in
    let lower = below_near m (d.0 * (m + m)) (u *ℤ (a.lo -ℤ b.hi)) (u *ℤ (a.hi -ℤ b.lo)) (int_max low high) (mono_left d.0 (a.lo -ℤ b.hi) (a.hi -ℤ b.lo) ordered) upper in
    either_max (λ x. IsNearAbove m (d.0 * (m + m)) x (int_max low high)) (u *ℤ (a.lo -ℤ b.hi)) (u *ℤ (a.hi -ℤ b.lo)) lower upper
  where
    ends_ordered : (a b : Ends) → a.lo ≤ℤ a.hi → b.lo ≤ℤ b.hi → (a.lo -ℤ b.hi) ≤ℤ (a.hi -ℤ b.lo)
    ends_ordered a b h k = omega (arith, ints)

sums_near : (n m : ℕ) (substrate : List ℕ) (wave : ℕ) (ds : List Dyeing) → 0 < slice_index substrate wave → All (λ d. 0 < slice_index d.1 wave) ds
    → IsNearAbove m (unit_sum ds * (m + m)) (weighted_sum n substrate wave ds).hi (weighted_sum (m * n) substrate wave ds).hi
unfolding weighted_sum sum_of
sums_near n m substrate wave [] some each = omega (arith, ints)
sums_near n m substrate wave (d ∷ ds) some each =
    let P : Dyeing → Type 0 = λ d. 0 < slice_index d.1 wave in
    let here = weighted_near n m substrate wave d some (each 0 d (omega arith)) in
    let there = sums_near n m substrate wave ds some (All-tail P d ds each) in
    let both = add_near m (d.0 * (m + m)) (unit_sum ds * (m + m)) _ _ _ _ here there in
    let all : d.0 * (m + m) + unit_sum ds * (m + m) ≡ unit_sum (d ∷ ds) * (m + m) = rw (sum_by-cons (λ (x : Dyeing). x.0) d ds) (omega arith) in
    subst (λ e. IsNearAbove m e ((weighted_addition n substrate wave d).hi +ℤ (weighted_sum n substrate wave ds).hi) ((weighted_addition (m * n) substrate wave d).hi +ℤ (weighted_sum (m * n) substrate wave ds).hi)) all both

-- both cut at 0
cut_near : (n k m e : ℕ) (x y : ℤ) → IsNearAbove m e x y → IsNearAbove m e (int_max x (pos 0 *ℤ pos n)) (int_max y (pos 0 *ℤ pos k))
cut_near n k m e x y h =
    let top = int_max y (pos 0 *ℤ pos k) in
    let number = further m e x y top (max_left y (pos 0 *ℤ pos k)) h in
    let zero = at_zero n k m e top (max_right y (pos 0 *ℤ pos k)) in
    either_max (λ x. IsNearAbove m e x top) x (pos 0 *ℤ pos n) number zero
  where
    at_zero : (n k m e : ℕ) (z : ℤ) → (pos 0 *ℤ pos k) ≤ℤ z → IsNearAbove m e (pos 0 *ℤ pos n) z
    at_zero n k m e z h = omega (arith, ints)

numerator_near : (n m : ℕ) (substrate : List ℕ) (wave : ℕ) (ds : List Dyeing) → 0 < slice_index substrate wave → All (λ d. 0 < slice_index d.1 wave) ds
    → IsNearAbove m (unit_sum ds * (m + m)) (numerator_at n substrate wave ds).hi (numerator_at (m * n) substrate wave ds).hi
unfolding numerator_at cut_low_at
numerator_near n m substrate wave ds some each =
    cut_near n (m * n) m (unit_sum ds * (m + m)) (weighted_sum n substrate wave ds).hi (weighted_sum (m * n) substrate wave ds).hi (sums_near n m substrate wave ds some each)

-- ---- the value

-- a numerator times units, over the squares
share_near : (m x q u : ℕ) (z z' : ℤ) → 0 < q → u ≤ q → pos 0 ≤ℤ z → pos 0 ≤ℤ z' → IsNearAbove m (u * (m + m)) z z'
    → IsNearAbove m (x * (m + m) + m) (ceil_over (z *ℤ pos x) q) (ceil_over (z' *ℤ pos x) q)
share_near m x q u (pos a) (pos b) some under h h' near =
    let near_difference : m * a ≤ b + u * (m + m) = omega (arith, ints, near) in
    let scaled : x * (m * a) ≤ x * (b + u * (m + m)) = mul-le-mul_left x near_difference in
    let within : x * (m + m) * u ≤ x * (m + m) * q = mul-le-mul_left (x * (m + m)) under in
    ceil_near m (a * x) (b * x) (x * (m + m)) q some (omega (arith, scaled, within))
share_near m x q u (negsuc a) z' some under h h' near = absurd (omega (arith, ints))
share_near m x q u (pos a) (negsuc b) some under h h' near = absurd (omega (arith, ints))

-- a reflectance of a curve is above 0
reflects : (curve : List ℕ) (wave : ℕ) → IsCurve curve → wave < length curve → 0 < slice_index curve wave
reflects curve wave kept lt = omega (arith, (kept.range wave 0 lt).0)

dyeing_reflects : (dye : DyeData) (wave : ℕ) → IsDye dye → wave < length dye.substrate → All (λ d. 0 < slice_index d.1 wave) dye.dyeings
dyeing_reflects dye wave kept lt k d h =
    reflects (get_or dye.dyeings k d).1 wave (kept.curves k d h) (omega (arith, lt, (kept.calibrates.dyeings k d h).waves))

numerator_high : (n : ℕ) (dye : DyeData) (wave : ℕ) → pos 0 ≤ℤ (numerator_at n dye.substrate wave dye.dyeings).hi
numerator_high n dye wave =
    trans_ℤ (pos 0) (numerator_at n dye.substrate wave dye.dyeings).lo (numerator_at n dye.substrate wave dye.dyeings).hi (numerator_not_negative n dye.substrate wave dye.dyeings) (numerator_ordered n dye.substrate wave dye.dyeings)

line_near : (n m : ℕ) (dye : DyeData) (wave x : ℕ) → IsDye dye → wave < length dye.substrate → IsNearAbove m (x * (m + m) + m) (line_at n dye wave x).hi (line_at (m * n) dye wave x).hi
unfolding line_at fraction_of
line_near n m dye wave x kept lt =
    let coarse = numerator_at n dye.substrate wave dye.dyeings in
    let fine = numerator_at (m * n) dye.substrate wave dye.dyeings in
    let some = reflects dye.substrate wave kept.substrate lt in
    share_near m x (square_sum dye.dyeings) (unit_sum dye.dyeings) coarse.hi fine.hi (squares_positive (length dye.substrate) dye.dyeings kept.calibrates.some kept.calibrates.dyeings) (units_under_squares dye.dyeings) (numerator_high n dye wave) (numerator_high (m * n) dye wave)
    (numerator_near n m dye.substrate wave dye.dyeings some (dyeing_reflects dye wave kept lt))

-- near by less is near by more
widen_above : (m e f : ℕ) (x y : ℤ) → e ≤ f → IsNearAbove m e x y → IsNearAbove m f x y
widen_above m e f x y le h = over (pos m *ℤ x) y e f le h
  where
    over : (p y : ℤ) (e f : ℕ) → e ≤ f → p ≤ℤ (y +ℤ pos e) → p ≤ℤ (y +ℤ pos f)
    over p y e f le h = omega (arith, ints)

widen_below : (m e f : ℕ) (x y : ℤ) → e ≤ f → IsNearBelow m e x y → IsNearBelow m f x y
widen_below m e f x y le h = over (pos m *ℤ x) y e f le h
  where
    over : (p y : ℤ) (e f : ℕ) → e ≤ f → y ≤ℤ (p +ℤ pos e) → y ≤ℤ (p +ℤ pos f)
    over p y e f le h = omega (arith, ints)

-- the straight line at up to 40,000 units
line_near_few : (n m : ℕ) (dye : DyeData) (wave x : ℕ) → IsDye dye → wave < length dye.substrate → x ≤ 40000 → IsNearAbove m (m * 80001) (line_at n dye wave x).hi (line_at (m * n) dye wave x).hi
line_near_few n m dye wave x kept lt few =
    let near = line_near n m dye wave x kept lt in
    let all = mul-le-mul_right (m + m) few in
    widen_above m (x * (m + m) + m) (m * 80001) (line_at n dye wave x).hi (line_at (m * n) dye wave x).hi (omega (arith, all)) near

-- ---- a broken line

-- both ends are near
pub record IsClose (m e : ℕ) (a b : Ends) : Type 0 where
  pub high : IsNearAbove m e a.hi b.hi
  pub low : IsNearBelow m e a.lo b.lo

widen : (m e f : ℕ) (a b : Ends) → e ≤ f → IsClose m e a b → IsClose m f a b
widen m e f a b le h = record { high = widen_above m e f a.hi b.hi le h.high; low = widen_below m e f a.lo b.lo le h.low }

subtract_near_low : (m e f : ℕ) (w x y z : ℤ) → IsNearBelow m e w y → IsNearAbove m f x z → IsNearBelow m (e + f) (w -ℤ x) (y -ℤ z)
subtract_near_low m e f w x y z h k = rw (minus_is w x, minus_is y z, mul-add_ℤ, mul-neg_ℤ) (sum (pos m *ℤ w) (pos m *ℤ x) y z e f h k)
  where
    sum : (p q y z : ℤ) (e f : ℕ) → y ≤ℤ (p +ℤ pos e) → q ≤ℤ (z +ℤ pos f) → (y +ℤ neg_ℤ z) ≤ℤ ((p +ℤ neg_ℤ q) +ℤ pos (e + f))
    sum p q y z e f h k = omega (arith, ints)

cut_near_low : (n k m e : ℕ) (x y : ℤ) → IsNearBelow m e x y → IsNearBelow m e (int_max x (pos 0 *ℤ pos n)) (int_max y (pos 0 *ℤ pos k))
cut_near_low n k m e x y h =
    let top = int_max x (pos 0 *ℤ pos n) in
    let grown : (pos m *ℤ x) ≤ℤ (pos m *ℤ top) = mono_left m x top (max_left x (pos 0 *ℤ pos n)) in
    let zero : (pos m *ℤ (pos 0 *ℤ pos n)) ≤ℤ (pos m *ℤ top) = mono_left m (pos 0 *ℤ pos n) top (max_right x (pos 0 *ℤ pos n)) in
    either_max (λ z. z ≤ℤ (pos m *ℤ top +ℤ pos e)) y (pos 0 *ℤ pos k) (by_number (pos m *ℤ x) (pos m *ℤ top) y e grown h) (by_zero n k m e (pos m *ℤ top) zero)
  where
    by_number : (p q y : ℤ) (e : ℕ) → p ≤ℤ q → y ≤ℤ (p +ℤ pos e) → y ≤ℤ (q +ℤ pos e)
    by_number p q y e h k = omega (arith, ints)

    by_zero : (n k m e : ℕ) (q : ℤ) → (pos m *ℤ (pos 0 *ℤ pos n)) ≤ℤ q → (pos 0 *ℤ pos k) ≤ℤ (q +ℤ pos e)
    by_zero n k m e q h = omega (arith, ints)

node_near : (n m : ℕ) (substrate : List ℕ) (wave : ℕ) (d : Dyeing) → 0 < slice_index substrate wave → 0 < slice_index d.1 wave
    → IsClose m (m + m) (node_at n substrate wave d).value (node_at (m * n) substrate wave d).value
unfolding node_at cut_low_at difference_of
node_near n m substrate wave d some some' =
    let r = slice_index d.1 wave in
    let s = slice_index substrate wave in
    record {
      high = cut_near n (m * n) m (m + m) _ _ (subtract_near m m m (ks_at n r).hi (ks_at n s).lo (ks_at (m * n) r).hi (ks_at (m * n) s).lo (ks_near n m r some') (ks_near_low n m s some));
      low = cut_near_low n (m * n) m (m + m) _ _ (subtract_near_low m m m (ks_at n r).lo (ks_at n s).hi (ks_at (m * n) r).lo (ks_at (m * n) s).hi (ks_near_low n m r some') (ks_near n m s some));
    }

-- a mean of two numbers that are not below 0
mean_above : (m e d p q : ℕ) (a b a' b' : ℤ) → 0 < d → d ≡ p + q → pos 0 ≤ℤ a → pos 0 ≤ℤ b → pos 0 ≤ℤ a' → pos 0 ≤ℤ b' → IsNearAbove m e a a' → IsNearAbove m e b b'
    → IsNearAbove m (e + m) (ceil_over (a *ℤ pos p +ℤ b *ℤ pos q) d) (ceil_over (a' *ℤ pos p +ℤ b' *ℤ pos q) d)
mean_above m e d p q (pos a) (pos b) (pos a') (pos b') some is h i j k near near' =
    let one : m * a ≤ a' + e = omega (arith, ints, near) in
    let other : m * b ≤ b' + e = omega (arith, ints, near') in
    let left = mul-le-mul_right p one in
    let right = mul-le-mul_right q other in
    ceil_near m (a * p + b * q) (a' * p + b' * q) e d some (rw is (omega (arith, left, right)))
mean_above m e d p q (negsuc a) b a' b' some is h i j k near near' = absurd (omega (arith, ints))
mean_above m e d p q (pos a) (negsuc b) a' b' some is h i j k near near' = absurd (omega (arith, ints))
mean_above m e d p q (pos a) (pos b) (negsuc a') b' some is h i j k near near' = absurd (omega (arith, ints))
mean_above m e d p q (pos a) (pos b) (pos a') (negsuc b') some is h i j k near near' = absurd (omega (arith, ints))

mean_below : (m e d p q : ℕ) (a b a' b' : ℤ) → 0 < d → d ≡ p + q → pos 0 ≤ℤ a → pos 0 ≤ℤ b → pos 0 ≤ℤ a' → pos 0 ≤ℤ b' → IsNearBelow m e a a' → IsNearBelow m e b b'
    → IsNearBelow m (e + m) (floor_over (a *ℤ pos p +ℤ b *ℤ pos q) d) (floor_over (a' *ℤ pos p +ℤ b' *ℤ pos q) d)
mean_below m e d p q (pos a) (pos b) (pos a') (pos b') some is h i j k near near' =
    let one : a' ≤ m * a + e = omega (arith, ints, near) in
    let other : b' ≤ m * b + e = omega (arith, ints, near') in
    let left = mul-le-mul_right p one in
    let right = mul-le-mul_right q other in
    floor_near m (a * p + b * q) (a' * p + b' * q) e d some (rw is (omega (arith, left, right)))
mean_below m e d p q (negsuc a) b a' b' some is h i j k near near' = absurd (omega (arith, ints))
mean_below m e d p q (pos a) (negsuc b) a' b' some is h i j k near near' = absurd (omega (arith, ints))
mean_below m e d p q (pos a) (pos b) (negsuc a') b' some is h i j k near near' = absurd (omega (arith, ints))
mean_below m e d p q (pos a) (pos b) (pos a') (negsuc b') some is h i j k near near' = absurd (omega (arith, ints))

-- a number times x / u
past_above : (m e x u : ℕ) (a a' : ℤ) → 0 < u → pos 0 ≤ℤ a → pos 0 ≤ℤ a' → IsNearAbove m e a a' → IsNearAbove m (e * x + m) (ceil_over (a *ℤ pos x) u) (ceil_over (a' *ℤ pos x) u)
past_above m e x u (pos a) (pos a') some h i near =
    let one : m * a ≤ a' + e = omega (arith, ints, near) in
    let all = mul-le-mul_right x one in
    let more = mul-le-mul_left (e * x) some in
    ceil_near m (a * x) (a' * x) (e * x) u some (omega (arith, all, more))
past_above m e x u (negsuc a) a' some h i near = absurd (omega (arith, ints))
past_above m e x u (pos a) (negsuc a') some h i near = absurd (omega (arith, ints))

past_below : (m e x u : ℕ) (a a' : ℤ) → 0 < u → pos 0 ≤ℤ a → pos 0 ≤ℤ a' → IsNearBelow m e a a' → IsNearBelow m (e * x + m) (floor_over (a *ℤ pos x) u) (floor_over (a' *ℤ pos x) u)
past_below m e x u (pos a) (pos a') some h i near =
    let one : a' ≤ m * a + e = omega (arith, ints, near) in
    let all = mul-le-mul_right x one in
    let more = mul-le-mul_left (e * x) some in
    floor_near m (a * x) (a' * x) (e * x) u some (omega (arith, all, more))
past_below m e x u (negsuc a) a' some h i near = absurd (omega (arith, ints))
past_below m e x u (pos a) (negsuc a') some h i near = absurd (omega (arith, ints))

high_of : (e : Ends) → IsAdded e → pos 0 ≤ℤ e.hi
high_of e h = trans_ℤ (pos 0) e.lo e.hi h.not_negative h.ordered

module _ (n m : ℕ) (substrate : List ℕ) (wave : ℕ) where
  from_near : (u : ℕ) (e e' : Ends) (ds : List Dyeing) (x : ℕ) → IsAdded e → IsAdded e' → IsClose m (m + m) e e' → All (λ d. IsClose m (m + m) (node_at n substrate wave d).value (node_at (m * n) substrate wave d).value) ds
      → Rises u ds → (ds ≡ [] → 0 < u) → u ≤ x → x ≤ 40000
      → IsClose m (m * 80001) (value_from (record { units = u; value = e }) (map (node_at n substrate wave) ds) x) (value_from (record { units = u; value = e' }) (map (node_at (m * n) substrate wave) ds) x)
  unfolding value_from node_at fraction_of
  from_near u e e' [] x good good' close each rises some from few =
      let least : 0 < u = some refl in
      let all = mul-le-mul_left (m + m) few in
      widen m ((m + m) * x + m) (m * 80001) _ _ (omega (arith, all)) (record {
        high = past_above m (m + m) x u e.hi e'.hi least (high_of e good) (high_of e' good') close.high;
        low = past_below m (m + m) x u e.lo e'.lo least good.not_negative good'.not_negative close.low;
      })
  from_near u e e' (d ∷ ds) x good good' close each rises some from few =
      let P : Dyeing → Type 0 = λ d. IsClose m (m + m) (node_at n substrate wave d).value (node_at (m * n) substrate wave d).value in
      let a : Node = record { units = u; value = e } in
      let a' : Node = record { units = u; value = e' } in
      let b : Node = node_at n substrate wave d in
      let b' : Node = node_at (m * n) substrate wave d in
      let node = All-head P d ds each in
      let added = node_added n substrate wave d in
      let added' = node_added (m * n) substrate wave d in
      ⊎_elim
      (λ (before : x < d.0).
      let width : 0 < d.0 - u = omega (arith, rises.0) in
      let split : d.0 - u ≡ (d.0 - x) + (x - u) = omega (arith, before, from) in
      let here : IsClose m (m * 80001) (between_at a b x) (between_at a' b' x) =
      widen m (m + m + m) (m * 80001) _ _ (omega arith) (record {
        high = mean_above m (m + m) (d.0 - u) (d.0 - x) (x - u) e.hi b.value.hi e'.hi b'.value.hi width split (high_of e good) (high_of _ added) (high_of e' good') (high_of _ added') close.high node.high;
        low = mean_below m (m + m) (d.0 - u) (d.0 - x) (x - u) e.lo b.value.lo e'.lo b'.value.lo width split good.not_negative added.not_negative good'.not_negative added'.not_negative close.low node.low;
      }) in
      subst (λ v. IsClose m (m * 80001) v (value_from a' (b' ∷ map (node_at (m * n) substrate wave) ds) x)) (sym (before_next a b (map (node_at n substrate wave) ds) x before))
      (subst (IsClose m (m * 80001) (between_at a b x)) (sym (before_next a' b' (map (node_at (m * n) substrate wave) ds) x before)) here))
      (λ (after : d.0 ≤ x).
      let later = from_near d.0 b.value b'.value ds x added added' node (All-tail P d ds each) rises.1 (λ e. omega (arith, rises.0)) after few in
      subst (λ v. IsClose m (m * 80001) v (value_from a' (b' ∷ map (node_at (m * n) substrate wave) ds) x)) (sym (from_next a b (map (node_at n substrate wave) ds) x after))
      (subst (IsClose m (m * 80001) (value_from b (map (node_at n substrate wave) ds) x)) (sym (from_next a' b' (map (node_at (m * n) substrate wave) ds) x after)) later))
      (cases_lt x d.0)

  hull_near : (e : ℕ) (a b a' b' : Ends) → IsNearAbove m e a.hi a'.hi → IsNearAbove m e b.hi b'.hi → IsNearAbove m e (hull_of a b).hi (hull_of a' b').hi
  unfolding hull_of
  hull_near e a b a' b' h k =
      either_max (λ z. IsNearAbove m e z (int_max a'.hi b'.hi)) a.hi b.hi (further m e a.hi a'.hi _ (max_left a'.hi b'.hi) h) (further m e b.hi b'.hi _ (max_right a'.hi b'.hi) k)

  choose_near : (e : ℕ) (t : Bool) (a b a' b' : Ends) → IsNearAbove m e a.hi a'.hi → IsNearAbove m e b.hi b'.hi → IsNearAbove m e (if t then a else b).hi (if t then a' else b').hi
  choose_near e true a b a' b' h k = h
  choose_near e false a b a' b' h k = k

  widened_near : (k x0 x1 : ℕ) (e e' : Ends) (ds : List Dyeing) → m + m ≤ k → IsNearAbove m k e.hi e'.hi → All (λ d. IsClose m (m + m) (node_at n substrate wave d).value (node_at (m * n) substrate wave d).value) ds
      → IsNearAbove m k (widened x0 x1 e (map (node_at n substrate wave) ds)).hi (widened x0 x1 e' (map (node_at (m * n) substrate wave) ds)).hi
  unfolding widened node_at
  widened_near k x0 x1 e e' [] room h each = h
  widened_near k x0 x1 e e' (d ∷ ds) room h each =
      let P : Dyeing → Type 0 = λ d. IsClose m (m + m) (node_at n substrate wave d).value (node_at (m * n) substrate wave d).value in
      let t = nat_lt x0 d.0 && nat_lt d.0 x1 in
      let v = (node_at n substrate wave d).value in
      let v' = (node_at (m * n) substrate wave d).value in
      let node = widen_above m (m + m) k v.hi v'.hi room (All-head P d ds each).high in
      widened_near k x0 x1 (if t then hull_of e v else e) (if t then hull_of e' v' else e') ds room (choose_near k t (hull_of e v) e (hull_of e' v') e' (hull_near k e v e' v' h node) h) (All-tail P d ds each)

module _ (n m : ℕ) (dye : DyeData) (wave : ℕ) (kept : IsDye dye) (lt : wave < length dye.substrate) where
  nodes_close : All (λ d. IsClose m (m + m) (node_at n dye.substrate wave d).value (node_at (m * n) dye.substrate wave d).value) (in_order dye.dyeings)
  nodes_close =
      order_all (λ d. IsClose m (m + m) (node_at n dye.substrate wave d).value (node_at (m * n) dye.substrate wave d).value) dye.dyeings
      (λ k d h. node_near n m dye.substrate wave (get_or dye.dyeings k d) (reflects dye.substrate wave kept.substrate lt) (dyeing_reflects dye wave kept lt k d h))

  none_close : IsClose m (m + m) nothing nothing
  none_close = record { high = omega (arith, ints); low = omega (arith, ints) }

  none_added : IsAdded nothing
  none_added = record { not_negative = omega (arith, ints); ordered = omega (arith, ints) }

  some_nodes : in_order dye.dyeings ≡ [] → 0 < 0
  some_nodes e =
      let filled = order_some dye.dyeings kept.calibrates.some (λ k d h. (kept.calibrates.dyeings k d h).units.0) in
      absurd (omega (arith, ap (λ (ds : List Dyeing). length ds) e, filled))

  point_close : (x : ℕ) → x ≤ 40000 → IsClose m (m * 80001) (value_from origin (nodes_at n dye.substrate wave dye.dyeings) x) (value_from origin (nodes_at (m * n) dye.substrate wave dye.dyeings) x)
  point_close x few = from_near n m dye.substrate wave 0 nothing nothing (in_order dye.dyeings) x none_added none_added none_close nodes_close (order_rises dye.dyeings) some_nodes (omega arith) few

  broken_near : (x0 x1 : ℕ) → x0 ≤ x1 → x1 ≤ 40000 → IsNearAbove m (m * 80001) (broken_over (nodes_at n dye.substrate wave dye.dyeings) x0 x1).hi (broken_over (nodes_at (m * n) dye.substrate wave dye.dyeings) x0 x1).hi
  unfolding broken_over
  broken_near x0 x1 le few =
      widened_near n m dye.substrate wave (m * 80001) x0 x1 _ _ (in_order dye.dyeings) (omega arith)
      (hull_near n m dye.substrate wave (m * 80001) _ _ _ _ (point_close x0 (omega (arith, le, few))).high (point_close x1 few).high) nodes_close

  -- ---- either

  value_by_near : (kind : Calibration) (x0 x1 : ℕ) → x0 ≤ x1 → x1 ≤ 40000 → IsNearAbove m (m * 80001) (value_over_by kind n dye wave x0 x1).hi (value_over_by kind (m * n) dye wave x0 x1).hi
  unfolding value_over_by
  value_by_near Line x0 x1 le few = line_near_few n m dye wave x1 kept lt few
  value_by_near Broken x0 x1 le few = broken_near x0 x1 le few

  choose_none : (e : ℕ) (t : Bool) (a b : Ends) → IsNearAbove m e a.hi b.hi → IsNearAbove m e (if t then nothing else a).hi (if t then nothing else b).hi
  choose_none e true a b h = omega (arith, ints)
  choose_none e false a b h = h

  addition_by_near : (kind : Calibration) (bath x0 x1 : ℕ) → x0 ≤ x1 → bath + x1 ≤ 40000 → IsNearAbove m (m * 160002) (addition_by kind n dye wave bath x0 x1).hi (addition_by kind (m * n) dye wave bath x0 x1).hi
  unfolding addition_by value_over_by value_by difference_of
  addition_by_near Line bath x0 x1 le few = widen_above m (m * 80001) (m * 160002) _ _ (omega arith) (line_near_few n m dye wave x1 kept lt (omega (arith, few)))
  addition_by_near Broken bath x0 x1 le few =
      let over = broken_near (bath + x0) (bath + x1) (omega (arith, le)) few in
      let before = point_close bath (omega (arith, few)) in
      let both = subtract_near m (m * 80001) (m * 80001) _ _ _ _ over before.low in
      choose_none (m * 160002) (nat_eq x1 0) _ _ (widen_above m (m * 80001 + m * 80001) (m * 160002) _ _ (omega arith) both)

-- a contribution and an addition of up to 40,000 units
pub contribution_near : (n m : ℕ) (dye : DyeData) (wave n0 n1 : ℕ) → IsDye dye → wave < length dye.substrate → n0 ≤ n1 → n1 * dye.step ≤ 40000
    → IsNearAbove m (m * 80001) (contribution_range_at n dye wave n0 n1).hi (contribution_range_at (m * n) dye wave n0 n1).hi
contribution_near n m dye wave n0 n1 kept lt le few = value_by_near n m dye wave kept lt dye.kind (n0 * dye.step) (n1 * dye.step) (mul-le-mul_right dye.step le) few

pub addition_near : (n m : ℕ) (dye : DyeData) (wave bath x0 x1 : ℕ) → IsDye dye → wave < length dye.substrate → x0 ≤ x1 → bath + x1 ≤ 40000
    → IsNearAbove m (m * 160002) (addition_over n dye wave bath x0 x1).hi (addition_over (m * n) dye wave bath x0 x1).hi
addition_near n m dye wave bath x0 x1 kept lt le few = addition_by_near n m dye wave kept lt dye.kind bath x0 x1 le few
