-- The laws of an addition to a bath.
use Rattle.std.proofs.Common.{◌≡◌, ◌+◌, ◌*◌, ◌≤◌, ◌≤ℤ◌, ◌-ℤ◌, ◌∙◌, ℕ, ℤ, pos, Bool, true, false, nat_eq, refl, sym, ap, subst, zero-add, arith, if◌then◌else◌}
use Rattle.std.proofs.lemmas.Int.{ints, clamps}
use Rattle.std.proofs.lemmas.Bool.Decides.{nat_tests}
use Rattle.interval_specs.specs.Ends.{Ends, nothing}
use Rattle.interval_specs.specs.Encloses.{Encloses}
use Rattle.interval_specs.specs.Operations.{difference_of, hull_of}
use Rattle.interval_specs.proofs.Held.{same_ends}
use Rattle.interval_specs.proofs.Laws.{difference_encloses, encloses_itself, included, nothing_encloses}
use Rattle.ks_curves.specs.declared.kind.Calibration.{Calibration}
use Rattle.ks_curves.specs.declared.kind.Calibration.TheVariants.{Line, Broken}
use Rattle.ks_curves.specs.Dye.{DyeData}
use Rattle.ks_curves.specs.BrokenLine.{origin, value_from, broken_over}
use Rattle.ks_curves.specs.Calibration.{in_order, nodes_at, value_by, value_over_by, addition_by}
use Rattle.ks_curves.specs.Laws.{AdditionEncloses, AdditionNarrows, AdditionAlone}
use Rattle.ks_curves.proofs.BrokenLaws.{Within, value_encloses as point_encloses, broken_encloses, broken_narrows, broken_holds, value_ordered, value_of_none, widened_single}
use Rattle.ks_curves.proofs.ContributionLaws.Line.{line_encloses, line_narrows}

choose : (m : ℕ) (t : Bool) (a a' : Ends) → Encloses m a a' → Encloses m (if t then nothing else a) (if t then nothing else a')
choose m true a a' h = nothing_encloses m
choose m false a a' h = h

by_kind_encloses : (kind : Calibration) (n m : ℕ) (dye : DyeData) (wave bath x0 x1 : ℕ) → x0 ≤ x1 → Encloses m (addition_by kind n dye wave bath x0 x1) (addition_by kind (m * n) dye wave bath x0 x1)
unfolding addition_by value_by value_over_by
by_kind_encloses Line n m dye wave bath x0 x1 le = line_encloses n m dye wave x0 x1 le
by_kind_encloses Broken n m dye wave bath x0 x1 le =
    let ds = in_order dye.dyeings in
    choose m (nat_eq x1 0) _ _ (difference_encloses m _ _ _ _ (broken_encloses n m dye.substrate wave ds (bath + x0) (bath + x1)) (point_encloses n m dye.substrate wave ds bath))

pub addition_encloses : AdditionEncloses
addition_encloses n m dye wave bath x0 x1 le = by_kind_encloses dye.kind n m dye wave bath x0 x1 le

-- where the values hold that at the bath, their difference holds 0
holds_none : (a v : Ends) → v.lo ≤ℤ v.hi → Within a.lo a.hi v → Encloses 1 (difference_of a v) nothing
unfolding difference_of
holds_none a v ordered h = let low = h.low in let high = h.high in included _ nothing (below a.lo v.lo v.hi ordered low) (above a.hi v.lo v.hi ordered high) (omega (arith, ints))
  where
    below : (k x y : ℤ) → x ≤ℤ y → k ≤ℤ x → (k -ℤ y) ≤ℤ pos 0
    below k x y h p = omega (arith, ints)

    above : (l x y : ℤ) → x ≤ℤ y → y ≤ℤ l → pos 0 ≤ℤ (l -ℤ x)
    above l x y h p = omega (arith, ints)

by_kind_narrows : (kind : Calibration) (n : ℕ) (dye : DyeData) (wave bath x0 x1 y0 y1 : ℕ) → x0 ≤ y0 → y0 ≤ y1 → y1 ≤ x1 → Encloses 1 (addition_by kind n dye wave bath x0 x1) (addition_by kind n dye wave bath y0 y1)
unfolding addition_by value_by value_over_by
by_kind_narrows Line n dye wave bath x0 x1 y0 y1 below within above = line_narrows n dye wave x0 x1 y0 y1 below within above
by_kind_narrows Broken n dye wave bath x0 x1 y0 y1 below within above = go (nat_eq x1 0) refl (nat_eq y1 0) refl
  where
    wide : Ends
    wide = broken_over (nodes_at n dye.substrate wave dye.dyeings) (bath + x0) (bath + x1)

    narrow : Ends
    narrow = broken_over (nodes_at n dye.substrate wave dye.dyeings) (bath + y0) (bath + y1)

    before : Ends
    before = value_from origin (nodes_at n dye.substrate wave dye.dyeings) bath

    go : (s : Bool) → nat_eq x1 0 ≡ s → (t : Bool) → nat_eq y1 0 ≡ t → Encloses 1 (if s then nothing else (difference_of wide before)) (if t then nothing else (difference_of narrow before))
    go true e true f = nothing_encloses 1
    go true e false f = absurd (grind (arith, nat_tests, e, f, above))
    go false e true f =
        let none : x0 ≡ 0 = grind (arith, nat_tests, f, below, within) in
        holds_none wide before (value_ordered n dye.substrate wave dye.dyeings bath) (broken_holds n dye.substrate wave dye.dyeings (bath + x0) (bath + x1) bath (omega (arith, none)) (omega arith))
    go false e false f =
        difference_encloses 1 _ _ _ _ (broken_narrows n dye.substrate wave dye.dyeings (bath + x0) (bath + x1) (bath + y0) (bath + y1) (omega (arith, below)) (omega (arith, within)) (omega (arith, above)))
        (encloses_itself before (value_ordered n dye.substrate wave dye.dyeings bath))

pub addition_narrows : AdditionNarrows
addition_narrows n dye wave bath x0 x1 y0 y1 below within above = by_kind_narrows dye.kind n dye wave bath x0 x1 y0 y1 below within above

-- ---- without a bath

less_nothing : (a : Ends) → difference_of a nothing ≡ a
unfolding difference_of
less_nothing a = same_ends _ _ a (omega (arith, ints)) (omega (arith, ints))

by_kind_alone : (kind : Calibration) (n : ℕ) (dye : DyeData) (wave x0 x1 : ℕ) → x0 ≤ x1 → addition_by kind n dye wave 0 x0 x1 ≡ value_over_by kind n dye wave x0 x1
unfolding addition_by value_by value_over_by broken_over hull_of
by_kind_alone Line n dye wave x0 x1 le = refl
by_kind_alone Broken n dye wave x0 x1 le = go (nat_eq x1 0) refl
  where
    over : ℕ → ℕ → Ends
    over x0 x1 = broken_over (nodes_at n dye.substrate wave dye.dyeings) x0 x1

    before : Ends
    before = value_from origin (nodes_at n dye.substrate wave dye.dyeings) 0

    none : before ≡ nothing
    none = value_of_none n dye.substrate wave dye.dyeings

    at_none : over 0 0 ≡ nothing
    at_none = widened_single 0 (hull_of before before) (nodes_at n dye.substrate wave dye.dyeings) ∙ ap (λ e. hull_of e e) none

    go : (t : Bool) → nat_eq x1 0 ≡ t → (if t then nothing else (difference_of (over (0 + x0) (0 + x1)) before)) ≡ over x0 x1
    go true e =
        let last : x1 ≡ 0 = grind (arith, nat_tests, e) in
        let first : x0 ≡ 0 = omega (arith, last, le) in
        sym at_none ∙ (λ i. over (sym first i) (sym last i))
    go false e = ap (λ v. difference_of (over (0 + x0) (0 + x1)) v) none ∙ less_nothing (over (0 + x0) (0 + x1)) ∙ (λ i. over (zero-add x0 i) (zero-add x1 i))

pub addition_alone : AdditionAlone
addition_alone n dye wave x0 x1 le = by_kind_alone dye.kind n dye wave x0 x1 le

-- ---- as it is computed

pub line_addition : (kind : Calibration) (n : ℕ) (dye : DyeData) (wave bath x0 x1 : ℕ) → kind ≡ Line → value_over_by kind n dye wave x0 x1 ≡ addition_by kind n dye wave bath x0 x1
unfolding addition_by
line_addition kind n dye wave bath x0 x1 is = subst (λ k. value_over_by k n dye wave x0 x1 ≡ addition_by k n dye wave bath x0 x1) (sym is) refl

pub no_addition : (kind : Calibration) (n : ℕ) (dye : DyeData) (wave bath x0 x1 : ℕ) → kind ≡ Broken → x1 ≡ 0 → nothing ≡ addition_by kind n dye wave bath x0 x1
unfolding addition_by
no_addition kind n dye wave bath x0 x1 is last = subst (λ k. nothing ≡ addition_by k n dye wave bath x0 x1) (sym is) (rw last refl)

itself : (e : Ends) → hull_of e e ≡ e
unfolding hull_of
itself e = same_ends _ _ e (omega (arith, ints, clamps)) (omega (arith, ints, clamps))

at_bath : (n : ℕ) (dye : DyeData) (wave bath : ℕ) → value_over_by Broken n dye wave bath bath ≡ value_by Broken n dye wave bath
unfolding value_over_by value_by broken_over
at_bath n dye wave bath =
    let nodes = nodes_at n dye.substrate wave dye.dyeings in
    widened_single bath (hull_of (value_from origin nodes bath) (value_from origin nodes bath)) nodes ∙ itself (value_from origin nodes bath)

pub broken_addition : (kind : Calibration) (n : ℕ) (dye : DyeData) (wave bath x0 x1 : ℕ) → kind ≡ Broken → (x1 ≡ 0 → ⊥)
    → difference_of (value_over_by kind n dye wave (bath + x0) (bath + x1)) (value_over_by kind n dye wave bath bath) ≡ addition_by kind n dye wave bath x0 x1
unfolding addition_by
broken_addition kind n dye wave bath x0 x1 is some =
    let tested : nat_eq x1 0 ≡ false = grind (arith, nat_tests, some) in
    subst (λ k. difference_of (value_over_by k n dye wave (bath + x0) (bath + x1)) (value_over_by k n dye wave bath bath) ≡ addition_by k n dye wave bath x0 x1) (sym is)
    (rw tested (ap (difference_of (value_over_by Broken n dye wave (bath + x0) (bath + x1))) (at_bath n dye wave bath)))
