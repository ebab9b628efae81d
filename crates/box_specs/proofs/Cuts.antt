-- Cuts of boxes: a box can be split where the rule says, its halves are boxes, and each recipe of
-- it lies in one of them.
use Rattle.std.proofs.Common.{◌≡◌, ◌+◌, ◌-◌, ◌/◌, ◌<◌, ◌≤◌, ◌==◌, ◌&&◌, ℕ, zero, suc, List, [], ◌∷◌, Bool, true, false, nat_le, nat_lt, if◌then◌else◌, length, get_or, refl, sym, ap, ◌∙◌, subst, ◌⊎◌, inl, inr, arith}
use Rattle.std.specs.Prelude.{Option, Some, None, unwrap_or}
use Rattle.std.specs.List.{AllZip, slice_set}
use Rattle.std.proofs.lemmas.Bool.{and_parts, cases_lt, false≢true}
use Rattle.std.proofs.lemmas.Bool.Decides.{nat_tests}
use Rattle.std.proofs.lemmas.Slice.Zip.{AllZip-long}
use Rattle.std.proofs.lemmas.Slice.Eq.{bytes_eq-Decides}
use Rattle.price_grid.specs.Grid.{IsUpTo}
use Rattle.box_specs.specs.Span.{IsBox, IsWithin, Span, is_single}
use Rattle.box_specs.specs.Splits.{CutAt, HalvesPartition, Partitions, RuleFits, cut_at, cut_of, first_optional, is_cut, lower_half, middle_of, upper_half, widest}
use Rattle.box_specs.proofs.Tests.{at_most, test_ge, test_lt}

-- both corners have the same length
pub same_count : (low high : List ℕ) → IsUpTo low high → length high ≡ length low
same_count low high h = AllZip-long (λ (l n : ℕ). l ≤ n) low high h

-- where a number of the upper corner is replaced by one that is not below that of the lower corner,
-- the corners are still those of a box
pub set_high : (low high : List ℕ) (i n : ℕ) → IsUpTo low high → get_or low i 0 ≤ n → IsUpTo low (slice_set high i n)
set_high [] [] i n h k = tt
set_high [] (m ∷ high) i n h k = absurd h
set_high (l ∷ low) [] i n h k = absurd h
set_high (l ∷ low) (m ∷ high) zero n h k = (k, h.1)
set_high (l ∷ low) (m ∷ high) (suc i) n h k = (h.0, set_high low high i n h.1 k)

-- where a number of the lower corner is replaced by one that is not above that of the upper corner,
-- the corners are still those of a box
pub set_low : (low high : List ℕ) (i n : ℕ) → IsUpTo low high → n ≤ get_or high i 0 → IsUpTo (slice_set low i n) high
set_low [] [] i n h k = tt
set_low [] (m ∷ high) i n h k = absurd h
set_low (l ∷ low) [] i n h k = absurd h
set_low (l ∷ low) (m ∷ high) zero n h k = (k, h.1)
set_low (l ∷ low) (m ∷ high) (suc i) n h k = (h.0, set_low low high i n h.1 k)

-- where the corners are those of a box after a number of the upper one was lowered, or of the lower
-- one raised, they were so before
pub unset_high : (low high : List ℕ) (i n : ℕ) → IsUpTo low (slice_set high i n) → n ≤ get_or high i 0 → IsUpTo low high
unset_high [] [] i n h k = tt
unset_high [] (m ∷ high) zero n h k = absurd h
unset_high [] (m ∷ high) (suc i) n h k = absurd h
unset_high (l ∷ low) [] i n h k = absurd h
unset_high (l ∷ low) (m ∷ high) zero n h k = (omega (arith, h.0), h.1)
unset_high (l ∷ low) (m ∷ high) (suc i) n h k = (h.0, unset_high low high i n h.1 k)

pub unset_low : (low high : List ℕ) (i n : ℕ) → IsUpTo (slice_set low i n) high → get_or low i 0 ≤ n → IsUpTo low high
unset_low [] [] i n h k = tt
unset_low [] (m ∷ high) i n h k = absurd h
unset_low (l ∷ low) [] zero n h k = absurd h
unset_low (l ∷ low) [] (suc i) n h k = absurd h
unset_low (l ∷ low) (m ∷ high) zero n h k = (omega (arith, h.0), h.1)
unset_low (l ∷ low) (m ∷ high) (suc i) n h k = (h.0, unset_low low high i n h.1 k)

-- in a box with a new number in one corner, this number is in order with that of the other corner
pub below_set : (low high : List ℕ) (i n : ℕ) → IsUpTo low (slice_set high i n) → i < length high → get_or low i 0 ≤ n
below_set [] [] i n h k = absurd (omega arith)
below_set [] (m ∷ high) zero n h k = absurd h
below_set [] (m ∷ high) (suc i) n h k = absurd h
below_set (l ∷ low) [] i n h k = absurd h
below_set (l ∷ low) (m ∷ high) zero n h k = h.0
below_set (l ∷ low) (m ∷ high) (suc i) n h k = below_set low high i n h.1 (omega arith)

pub above_set : (low high : List ℕ) (i n : ℕ) → IsUpTo (slice_set low i n) high → i < length low → n ≤ get_or high i 0
above_set [] high i n h k = absurd (omega arith)
above_set (l ∷ low) [] zero n h k = absurd h
above_set (l ∷ low) [] (suc i) n h k = absurd h
above_set (l ∷ low) (m ∷ high) zero n h k = h.0
above_set (l ∷ low) (m ∷ high) (suc i) n h k = above_set low high i n h.1 (omega arith)

-- what the test of a cut means
pub record Cuts (b : Span) (cut : CutAt) : Type 0 where
  pub there : cut.dye < length b.lo
  pub low : get_or b.lo cut.dye 0 ≤ cut.mid
  pub high : cut.mid < get_or b.hi cut.dye 0

pub cuts : (b : Span) (cut : CutAt) → is_cut b cut ≡ true → Cuts b cut
cuts b cut h =
    let outer = and_parts (nat_lt cut.dye (length b.lo) && nat_le (get_or b.lo cut.dye 0) cut.mid) (nat_lt cut.mid (get_or b.hi cut.dye 0)) h in
    let inner = and_parts (nat_lt cut.dye (length b.lo)) (nat_le (get_or b.lo cut.dye 0) cut.mid) outer.0 in
    record { there = test_lt _ _ inner.0; low = at_most _ _ inner.1; high = test_lt _ _ outer.1 }

module _ (b : Span) (cut : CutAt) (box : IsBox b) (c : Cuts b cut) where
  pub lower_is_box : IsBox (lower_half b cut)
  lower_is_box = set_high b.lo b.hi cut.dye cut.mid box c.low

  pub upper_is_box : IsBox (upper_half b cut)
  upper_is_box = set_low b.lo b.hi cut.dye (cut.mid + 1) box (omega (arith, c.high))

  -- a recipe of a half lies in the box
  pub from_lower : (steps : List ℕ) → IsWithin steps (lower_half b cut) → IsWithin steps b
  from_lower steps h = (h.0, unset_high steps b.hi cut.dye cut.mid h.1 (omega (arith, c.high)))

  pub from_upper : (steps : List ℕ) → IsWithin steps (upper_half b cut) → IsWithin steps b
  from_upper steps h = (unset_low b.lo steps cut.dye (cut.mid + 1) h.0 (omega (arith, c.low)), h.1)

  -- a recipe of the box lies in one half, by its number of steps of the dye
  pub in_lower : (steps : List ℕ) → IsWithin steps b → get_or steps cut.dye 0 ≤ cut.mid → IsWithin steps (lower_half b cut)
  in_lower steps h k = (h.0, set_high steps b.hi cut.dye cut.mid h.1 k)

  pub in_upper : (steps : List ℕ) → IsWithin steps b → cut.mid < get_or steps cut.dye 0 → IsWithin steps (upper_half b cut)
  in_upper steps h k = (set_low b.lo steps cut.dye (cut.mid + 1) h.0 (omega (arith, k)), h.1)

  -- no recipe lies in both halves
  pub not_both : (steps : List ℕ) → IsWithin steps (lower_half b cut) → IsWithin steps (upper_half b cut) → ⊥
  not_both steps h k =
      let high : cut.dye < length b.hi = omega (arith, c.there, same_count b.lo b.hi box) in
      omega (arith, below_set steps b.hi cut.dye cut.mid h.1 high, above_set b.lo steps cut.dye (cut.mid + 1) k.0 c.there)

-- a dye of which a box has recipes with none and recipes with some, at an offset from the first dye
-- of the lists
pub record IsOptional (i dye : ℕ) (low high : List ℕ) : Type 0 where
  pub offset : ℕ
  pub dye_is : dye ≡ i + offset
  pub there : offset < length low
  pub low_is : get_or low offset 0 ≡ 0
  pub high_is : 0 < get_or high offset 0

is_zero : (n : ℕ) → (n == 0) ≡ true → n ≡ 0
is_zero n h = grind (arith, nat_tests)

pub optional_found : (i dye : ℕ) (low high : List ℕ) → first_optional i low high ≡ Some dye → IsOptional i dye low high
optional_found i dye [] high h = cc
optional_found i dye (l ∷ low) [] h = cc
optional_found i dye (l ∷ low) (m ∷ high) h = go (optional_found (i + 1) dye low high) ((l == 0) && nat_lt 0 m) refl h where
  go : (first_optional (i + 1) low high ≡ Some dye → IsOptional (i + 1) dye low high) → (t : Bool) → (l == 0) && nat_lt 0 m ≡ t
      → (if t then Some i else first_optional (i + 1) low high) ≡ Some dye → IsOptional i dye (l ∷ low) (m ∷ high)
  go found true e s =
      let parts = and_parts (l == 0) (nat_lt 0 m) e in
      record {
        offset = 0;
        dye_is = sym (ap (λ o. unwrap_or o 0) s) ∙ omega arith;
        there = omega arith;
        low_is = is_zero l parts.0;
        high_is = test_lt 0 m parts.1;
      }
  go found false e s =
      let rest = found s in
      record {
        offset = suc rest.offset;
        dye_is = omega (arith, rest.dye_is);
        there = omega (arith, rest.there);
        low_is = rest.low_is;
        high_is = rest.high_is;
      }

-- the result is `best`, and no range is wider than `width`; or it is a dye of the lists whose range
-- is wider than `width`
pub data IsWidest (best width i : ℕ) (low high : List ℕ) (result : ℕ) : Type 0 where
  same : result ≡ best → AllZip (λ l h. h - l ≤ width) low high → IsWidest best width i low high result
  wider : (offset : ℕ) → result ≡ i + offset → offset < length low → width < get_or high offset 0 - get_or low offset 0 → IsWidest best width i low high result

pub widest_found : (best width i : ℕ) (low high : List ℕ) → IsUpTo low high → IsWidest best width i low high (widest best width i low high)
widest_found best width i [] [] h = same refl tt
widest_found best width i [] (m ∷ high) h = absurd h
widest_found best width i (l ∷ low) [] h = absurd h
widest_found best width i (l ∷ low) (m ∷ high) h =
    go (widest_found i (m - l) (i + 1) low high h.1) (widest_found best width (i + 1) low high h.1) (nat_lt width (m - l)) refl where
      keep : m - l ≤ width → IsWidest best width (i + 1) low high (widest best width (i + 1) low high) → IsWidest best width i (l ∷ low) (m ∷ high) (widest best width (i + 1) low high)
      keep e (same r a) = same r (e, a)
      keep e (wider k r t w) = wider (suc k) (omega (arith, r)) (omega (arith, t)) w

      take : width < m - l → IsWidest i (m - l) (i + 1) low high (widest i (m - l) (i + 1) low high) → IsWidest best width i (l ∷ low) (m ∷ high) (widest i (m - l) (i + 1) low high)
      take e (same r a) = wider 0 (omega (arith, r)) (omega arith) e
      take e (wider k r t w) = wider (suc k) (omega (arith, r)) (omega (arith, t)) (omega (arith, e, w))

      go : IsWidest i (m - l) (i + 1) low high (widest i (m - l) (i + 1) low high) → IsWidest best width (i + 1) low high (widest best width (i + 1) low high)
          → (t : Bool) → nat_lt width (m - l) ≡ t → IsWidest best width i (l ∷ low) (m ∷ high) (if t then widest i (m - l) (i + 1) low high else widest best width (i + 1) low high)
      go taken kept true e = take (test_lt width (m - l) e) taken
      go taken kept false e = keep (test_ge width (m - l) e) kept

-- corners whose ranges all have the width 0 are the same
pub no_width : (low high : List ℕ) → IsUpTo low high → AllZip (λ l h. h - l ≤ 0) low high → low ≡ high
no_width [] [] h a = refl
no_width [] (m ∷ high) h a = absurd h
no_width (l ∷ low) [] h a = absurd h
no_width (l ∷ low) (m ∷ high) h a =
    let first : l ≡ m = omega (arith, h.0, a.0) in
    λ i. first i ∷ no_width low high h.1 a.1 i

halved : (l m : ℕ) → l < m → (l ≤ (l + m) / 2) × ((l + m) / 2 < m)
halved l m h = (omega arith, omega arith)

pub cut_fits : (b : Span) → IsBox b → is_single b ≡ false → Cuts b (cut_of b)
cut_fits b box open_ = go (first_optional 0 b.lo b.hi) refl where
  wide : ℕ
  wide = widest 0 0 0 b.lo b.hi

  middle : IsWidest 0 0 0 b.lo b.hi wide → Cuts b (record { dye = wide; mid = middle_of b wide })
  middle (same r a) =
      let one = no_width b.lo b.hi box a in
      absurd (false≢true (sym open_ ∙ (bytes_eq-Decides b.lo b.hi).1 one))
  middle (wider k r t w) =
      let at : wide ≡ k = r ∙ omega arith in
      let range : get_or b.lo k 0 < get_or b.hi k 0 = omega (arith, w) in
      let half = halved (get_or b.lo k 0) (get_or b.hi k 0) range in
      subst (λ d. Cuts b (record { dye = d; mid = middle_of b d })) (sym at) (record { there = t; low = half.0; high = half.1 })

  go : (o : Option ℕ) → first_optional 0 b.lo b.hi ≡ o → Cuts b (cut_at b o wide)
  go None e = middle (widest_found 0 0 0 b.lo b.hi box)
  go (Some dye) e =
      let found = optional_found 0 dye b.lo b.hi e in
      let at : dye ≡ found.offset = found.dye_is ∙ omega arith in
      subst (λ d. Cuts b (record { dye = d; mid = 0 })) (sym at) (record { there = found.there; low = omega (arith, found.low_is); high = found.high_is })

-- the converse: the test of a cut holds
pub is_cut_from : (b : Span) (cut : CutAt) → Cuts b cut → is_cut b cut ≡ true
is_cut_from b cut c = grind (arith, nat_tests, c.there, c.low, c.high)

pub halves_partition : HalvesPartition
halves_partition b cut steps box e = go (cuts b cut e) where
  go : Cuts b cut → Partitions b (lower_half b cut) (upper_half b cut) steps
  go c = record {
    in_one = λ h. elim (cases_lt cut.mid (get_or steps cut.dye 0)) as (λ _. IsWithin steps (lower_half b cut) ⊎ IsWithin steps (upper_half b cut)) [
      | inl above ↦ inr (in_upper b cut box c steps h above)
      | inr below_ ↦ inl (in_lower b cut box c steps h below_)
    ];
    from_one = λ h. elim h as (λ _. IsWithin steps b) [ inl i ↦ from_lower b cut box c steps i | inr i ↦ from_upper b cut box c steps i ];
    not_both = not_both b cut box c steps;
  }

pub rule_fits : RuleFits
rule_fits b box open_ = is_cut_from b (cut_of b) (cut_fits b box open_)
