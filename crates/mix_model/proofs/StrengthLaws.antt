-- The strength of mixtures: of those within another, and of straight lines.
use Rattle.std.proofs.Common.{◌≡◌, ◌+◌, ◌*◌, ◌^◌, ◌≤◌, ◌||◌, ◌≤ℤ◌, ◌∙◌, ℕ, ℤ, zero, suc, pos, Bool, true, false, List, [], ◌∷◌, All, Some, length, drop, refl, ap, sym, subst, arith, add-one}
use Rattle.std.specs.Prelude.{int_lt, slice_get}
use Rattle.std.specs.List.{AllZip, list_any}
use Rattle.std.proofs.lemmas.Int.{ints}
use Rattle.std.proofs.lemmas.List.{drop_all}
use Rattle.std.proofs.lemmas.List.Elements.{All-cons, All-tail}
use Rattle.interval_specs.specs.Ends.{Ends}
use Rattle.interval_specs.specs.Operations.{sum_of}
use Rattle.interval_specs.proofs.Laws.{inclusion_high}
use Rattle.ks_curves.specs.declared.kind.Calibration.{Calibration}
use Rattle.ks_curves.specs.declared.kind.Calibration.TheVariants.{Line}
use Rattle.ks_curves.specs.Dye.{DyeData}
use Rattle.ks_curves.specs.Calibration.{addition_by, value_over_by}
use Rattle.mix_model.specs.Laws.{IsWithin, LineStrength, WeakReflects}
use Rattle.mix_model.specs.Mixture.{Portion, contributions_at, doses_of, dosed, mixture_from, portions}
use Rattle.mix_model.specs.Strength.{is_strong, is_too_strong}
use Rattle.mix_model.proofs.MixtureLaws.{contributions_narrow}
use Rattle.mix_model.proofs.Portions.{length-mixture}

-- ---- within a mixture

sum_rises : (k a b : Ends) → a.hi ≤ℤ b.hi → (sum_of k a).hi ≤ℤ (sum_of k b).hi
unfolding sum_of
sum_rises k a b le = omega (arith, ints)

-- where a disjunction is false, both sides are
neither : (a b : Bool) → (a || b) ≡ false → (a ≡ false) × (b ≡ false)
neither true b h = cc
neither false b h = (refl, h)

not_above : (limit room : ℕ) (strong weak : ℤ) → int_lt (pos limit) strong ≡ false → weak ≤ℤ strong → limit ≤ room → weak ≤ℤ pos room
not_above limit room strong weak test le enough_room = omega (arith, ints)

-- the upper ends within a mixture are below each bound on its own
pub sums_below : (n wave limit room : ℕ) (wide narrow : List Portion) (base : List Ends) → limit ≤ room → AllZip IsWithin wide narrow → list_any (λ q. int_lt (pos limit) q.hi) (mixture_from n wide wave base) ≡ false
    → All (λ q. q.hi ≤ℤ pos room) (mixture_from n narrow wave base)
unfolding mixture_from
sums_below n wave limit room wide narrow [] enough_room h weak = λ k d lt. absurd (omega (arith, lt))
sums_below n wave limit room wide narrow (b ∷ base) enough_room h weak =
    let here = contributions_at n wave narrow in
    let there = contributions_at n wave wide in
    let both = neither (int_lt (pos limit) (sum_of b there).hi) (list_any (λ (q : Ends). int_lt (pos limit) q.hi) (mixture_from n wide (wave + 1) base)) weak in
    let le = inclusion_high there here (contributions_narrow n wave wide narrow h) in
    All-cons (λ (q : Ends). q.hi ≤ℤ pos room) (sum_of b here) (mixture_from n narrow (wave + 1) base)
    (not_above limit room (sum_of b there).hi (sum_of b here).hi both.0 (sum_rises b here there le) enough_room)
    (sums_below n (wave + 1) limit room wide narrow base enough_room h both.1)

-- the same for the bounds themselves
pub sums_lower : (n wave limit : ℕ) (wide narrow : List Portion) (base : List Ends) → AllZip IsWithin wide narrow → All (λ q. q.hi ≤ℤ pos limit) (mixture_from n wide wave base)
    → All (λ q. q.hi ≤ℤ pos limit) (mixture_from n narrow wave base)
unfolding mixture_from
sums_lower n wave limit wide narrow [] h weak = λ k d lt. absurd (omega (arith, lt))
sums_lower n wave limit wide narrow (b ∷ base) h weak =
    let P : Ends → Type 0 = λ q. q.hi ≤ℤ pos limit in
    let here = contributions_at n wave narrow in
    let there = contributions_at n wave wide in
    let le = sum_rises b here there (inclusion_high there here (contributions_narrow n wave wide narrow h)) in
    let top = weak 0 (sum_of b there) (omega arith) in
    All-cons P (sum_of b here) (mixture_from n narrow (wave + 1) base) (lower (sum_of b here).hi (sum_of b there).hi limit le top)
    (sums_lower n (wave + 1) limit wide narrow base h (All-tail P (sum_of b there) (mixture_from n wide (wave + 1) base) weak))
  where
    lower : (x y : ℤ) (k : ℕ) → x ≤ℤ y → y ≤ℤ pos k → x ≤ℤ pos k
    lower x y k p q = omega (arith, ints)

pub weak_reflects : WeakReflects
unfolding is_too_strong
weak_reflects base wide narrow weak h = sums_below (10 ^ 12) 0 (10 ^ 6 * 10 ^ 12) (2 * 10 ^ 6 * 10 ^ 12) wide narrow base (omega arith) h weak

-- ---- straight lines

-- the upper end of what is added along a straight line depends on the most units alone
line_high : (kind : Calibration) (n : ℕ) (dye : DyeData) (wave bath x0 y0 x1 : ℕ) → kind ≡ Line → (addition_by kind n dye wave bath x0 x1).hi ≡ (addition_by kind n dye wave bath y0 x1).hi
unfolding addition_by value_over_by
line_high kind n dye wave bath x0 y0 x1 is = subst (λ k. (addition_by k n dye wave bath x0 x1).hi ≡ (addition_by k n dye wave bath y0 x1).hi) (sym is) refl

sum_high : (a b c d : Ends) → a.hi ≡ c.hi → b.hi ≡ d.hi → (sum_of a b).hi ≡ (sum_of c d).hi
unfolding sum_of
sum_high a b c d p q = omega (arith, ints, p, q)

lines_high : (n wave : ℕ) (dyes : List DyeData) (bath lo other hi : List ℕ) → All (λ dye. dye.kind ≡ Line) dyes → length lo ≡ length other
    → (contributions_at n wave (portions dyes bath lo hi)).hi ≡ (contributions_at n wave (portions dyes bath other hi)).hi
unfolding contributions_at dosed doses_of
lines_high n wave [] bath lo other hi lines same = refl
lines_high n wave (d ∷ ds) [] lo other hi lines same = refl
lines_high n wave (d ∷ ds) (b ∷ bs) [] [] hi lines same = refl
lines_high n wave (d ∷ ds) (b ∷ bs) [] (o ∷ os) hi lines same = absurd (omega (arith, same))
lines_high n wave (d ∷ ds) (b ∷ bs) (l ∷ ls) [] hi lines same = absurd (omega (arith, same))
lines_high n wave (d ∷ ds) (b ∷ bs) (l ∷ ls) (o ∷ os) [] lines same = refl
lines_high n wave (d ∷ ds) (b ∷ bs) (l ∷ ls) (o ∷ os) (h ∷ hs) lines same =
    let P : DyeData → Type 0 = λ dye. dye.kind ≡ Line in
    sum_high _ (contributions_at n wave (portions ds bs ls hs)) _ (contributions_at n wave (portions ds bs os hs)) (line_high d.kind n d wave (b * d.step) (l * d.step) (o * d.step) (h * d.step) (lines 0 d (omega arith)))
    (lines_high n wave ds bs ls os hs (All-tail P d ds lines) (omega (arith, same)))

-- strength depends on the upper ends alone
same_strength : (n wave : ℕ) (ps qs : List Portion) (base : List Ends) → ((w : ℕ) → (contributions_at n w ps).hi ≡ (contributions_at n w qs).hi) → list_any (is_strong n) (mixture_from n ps wave base) ≡ list_any (is_strong n) (mixture_from n qs wave base)
unfolding mixture_from
same_strength n wave ps qs [] same = refl
same_strength n wave ps qs (k ∷ base) same =
    let here : (sum_of k (contributions_at n wave ps)).hi ≡ (sum_of k (contributions_at n wave qs)).hi = sum_high k _ k _ refl (same wave) in
    let later = same_strength n (wave + 1) ps qs base same in
    λ i. int_lt (pos (10 ^ 6 * n)) (here i) || later i

pub line_strength : LineStrength
unfolding is_too_strong
line_strength base dyes bath lo other hi lines same =
    same_strength (10 ^ 12) 0 (portions dyes bath lo hi) (portions dyes bath other hi) base (λ w. lines_high (10 ^ 12) w dyes bath lo other hi lines same)

-- ---- wavelength by wavelength

-- whether any item from an index on passes the test
any_from : (p : Ends → Bool) (xs : List Ends) (i : ℕ) (q : Ends) → slice_get xs i ≡ Some q → list_any p (drop i xs) ≡ (p q || list_any p (drop (suc i) xs))
any_from p [] i q here = cc
any_from p (x ∷ xs) zero q here = let e : Some x ≡ Some q = here in let same : x ≡ q = cc in ap (λ y. p y || list_any p xs) same
any_from p (x ∷ xs) (suc i) q here = any_from p xs i q here

pub passed_here : (p : Ends → Bool) (xs : List Ends) (i : ℕ) (q : Ends) (all : Bool) → slice_get xs i ≡ Some q → p q ≡ true → list_any p (drop i xs) ≡ all → true ≡ all
passed_here p xs i q all here passes so_far = let next : list_any p (drop i xs) ≡ true = any_from p xs i q here ∙ ap (λ b. b || list_any p (drop (suc i) xs)) passes in sym next ∙ so_far

pub not_here : (p : Ends → Bool) (xs : List Ends) (i : ℕ) (q : Ends) (all : Bool) → slice_get xs i ≡ Some q → p q ≡ false → list_any p (drop i xs) ≡ all → list_any p (drop (i + 1) xs) ≡ all
not_here p xs i q all here fails so_far =
    let next : list_any p (drop i xs) ≡ list_any p (drop (suc i) xs) = any_from p xs i q here ∙ ap (λ b. b || list_any p (drop (suc i) xs)) fails in
    rw add-one (sym next ∙ so_far)

pub none_left : (p : Ends → Bool) (n : ℕ) (ps : List Portion) (base : List Ends) (i : ℕ) (all : Bool) → length base ≤ i → list_any p (drop i (mixture_from n ps 0 base)) ≡ all → false ≡ all
none_left p n ps base i all le so_far =
    let none : list_any p (drop i (mixture_from n ps 0 base)) ≡ false = ap (list_any p) (drop_all i (mixture_from n ps 0 base) (omega (arith, le, length-mixture n ps 0 base))) in
    sym none ∙ so_far
