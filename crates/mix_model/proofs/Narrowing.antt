-- Sums of a box in which the range of one dye is narrowed.
use Rattle.std.proofs.Common.{◌≡◌, ◌+◌, ◌*◌, ◌^◌, ◌≤◌, ◌<◌, ◌≤ℤ◌, ◌+ℤ◌, ◌-ℤ◌, ℕ, zero, suc, List, [], ◌∷◌, All, Some, length, get_or, set, take, refl, ap, sym, subst, ◌∙◌, arith, mul-le-mul_right}
use Rattle.std.specs.Prelude.{slice_get}
use Rattle.std.specs.List.{AllZip}
use Rattle.std.proofs.lemmas.Int.{ints}
use Rattle.std.proofs.lemmas.List.{length-set}
use Rattle.std.proofs.lemmas.List.Elements.{All-set, All-tail}
use Rattle.std.proofs.lemmas.Option.{get_or_from_slice_get, slice_get-get_or, slice_get_within}
use Rattle.interval_specs.specs.Ends.{Ends, nothing}
use Rattle.interval_specs.specs.Encloses.{Encloses}
use Rattle.interval_specs.specs.Operations.{sum_of}
use Rattle.interval_specs.proofs.Laws.{encloses_itself, sum_encloses}
use Rattle.ks_curves.specs.Dye.{DyeData}
use Rattle.ks_curves.specs.Calibration.{addition_over, addition_range_at}
use Rattle.mix_model.specs.Laws.{IsWithin}
use Rattle.mix_model.specs.Mixture.{CanMix, HaveSteps, IsPortion, Portion, contributions_at, dosed, doses_of, mixture_ks_at, portions}
use Rattle.mix_model.specs.Narrowing.{CanNarrow, narrowed_at, replaced}
use Rattle.mix_model.specs.Sums.{AreSums, AreSumsOf, HasRange, IsSubrange}
use Rattle.mix_model.proofs.Doses.{dose, dosed_at, doses_at, length-dosed, length-doses_of, portion}
use Rattle.mix_model.proofs.MixtureLaws.{contributions_narrow, within_itself}
use Rattle.mix_model.proofs.Portions.{all_there, are_sums, length-mixture, mixture_is}
use Rattle.mix_model.proofs.StrengthLaws.{sums_lower}

-- ---- one portion in place of another

abbrev adds : ℕ → ℕ → Portion → Ends
adds n wave p = addition_over n p.dye wave p.bath p.from p.upto

first_replaced : (a c q : Ends) → sum_of q c ≡ replaced (sum_of a c) a q
unfolding sum_of replaced
first_replaced a c q =
    let lo : (q.lo +ℤ c.lo) ≡ (((a.lo +ℤ c.lo) -ℤ a.lo) +ℤ q.lo) = omega (arith, ints) in
    let hi : (q.hi +ℤ c.hi) ≡ (((a.hi +ℤ c.hi) -ℤ a.hi) +ℤ q.hi) = omega (arith, ints) in
    λ i. record { lo = lo i; hi = hi i }

rest_replaced : (a c p q : Ends) → sum_of a (replaced c p q) ≡ replaced (sum_of a c) p q
unfolding sum_of replaced
rest_replaced a c p q =
    let lo : (a.lo +ℤ ((c.lo -ℤ p.lo) +ℤ q.lo)) ≡ (((a.lo +ℤ c.lo) -ℤ p.lo) +ℤ q.lo) = omega (arith, ints) in
    let hi : (a.hi +ℤ ((c.hi -ℤ p.hi) +ℤ q.hi)) ≡ (((a.hi +ℤ c.hi) -ℤ p.hi) +ℤ q.hi) = omega (arith, ints) in
    λ i. record { lo = lo i; hi = hi i }

-- the contributions with one portion in place of another
contributions_replaced : (n wave : ℕ) (ps : List Portion) (i : ℕ) (p q : Portion) → i < length ps → get_or ps i p ≡ p
    → contributions_at n wave (set ps i q) ≡ replaced (contributions_at n wave ps) (adds n wave p) (adds n wave q)
unfolding contributions_at
contributions_replaced n wave [] i p q lt is = absurd (omega (arith, lt))
contributions_replaced n wave (x ∷ ps) zero p q lt is =
    first_replaced (adds n wave x) (contributions_at n wave ps) (adds n wave q) ∙ ap (λ (y : Portion). replaced (sum_of (adds n wave x) (contributions_at n wave ps)) (adds n wave y) (adds n wave q)) is
contributions_replaced n wave (x ∷ ps) (suc i) p q lt is =
    ap (sum_of (adds n wave x)) (contributions_replaced n wave ps i p q (omega (arith, lt)) is) ∙ rest_replaced (adds n wave x) (contributions_at n wave ps) (adds n wave p) (adds n wave q)

-- ---- one range of steps in place of another

-- the dye of index i, in place of which the portion of other steps stands
pub portions_set : (dyes : List DyeData) (bath lo hi : List ℕ) (i few many : ℕ) (dye : DyeData) → length bath ≡ length dyes → length lo ≡ length dyes → length hi ≡ length dyes → i < length dyes
    → portions dyes bath (set lo i few) (set hi i many) ≡ set (portions dyes bath lo hi) i (portion (get_or dyes i dye) (dose (get_or dyes i dye) (get_or bath i 0) few many))
unfolding dosed doses_of
portions_set [] bath lo hi i few many dye e f g lt = absurd (omega arith)
portions_set (x ∷ xs) [] lo hi i few many dye e f g lt = absurd (omega arith)
portions_set (x ∷ xs) (b ∷ bs) [] hi i few many dye e f g lt = absurd (omega arith)
portions_set (x ∷ xs) (b ∷ bs) (l ∷ ls) [] i few many dye e f g lt = absurd (omega arith)
portions_set (x ∷ xs) (b ∷ bs) (l ∷ ls) (h ∷ hs) zero few many dye e f g lt = refl
portions_set (x ∷ xs) (b ∷ bs) (l ∷ ls) (h ∷ hs) (suc i) few many dye e f g lt =
    ap (λ (ps : List Portion). portion x (dose x b l h) ∷ ps) (portions_set xs bs ls hs i few many dye (omega arith) (omega arith) (omega arith) (omega arith))

within_set : (ps : List Portion) (i : ℕ) (p q : Portion) → All (λ p. p.from ≤ p.upto) ps → get_or ps i p ≡ p → IsWithin p q → AllZip IsWithin ps (set ps i q)
within_set [] i p q ordered is h = tt
within_set (x ∷ ps) zero p q ordered is h = (subst (λ (y : Portion). IsWithin y q) (sym is) h, within_itself ps (All-tail (λ (p : Portion). p.from ≤ p.upto) x ps ordered))
within_set (x ∷ ps) (suc i) p q ordered is h =
    (record { dye = refl; bath = refl; from = omega arith; ordered = ordered 0 x (omega arith); upto = omega arith }, within_set ps i p q (All-tail (λ (p : Portion). p.from ≤ p.upto) x ps ordered) is h)

-- ---- the box

-- What is known of one dye of a box whose range is narrowed: the portions before and after.
pub record IsNarrowed (n : ℕ) (base : List Ends) (dyes : List DyeData) (bath lo hi : List ℕ) (i : ℕ) (dye : DyeData) (old new : ℕ × ℕ) : Type 0 where
  pub in_list : i < length (portions dyes bath lo hi)
  pub is : get_or (portions dyes bath lo hi) i (portion dye (dose dye (get_or bath i 0) old.0 old.1)) ≡ portion dye (dose dye (get_or bath i 0) old.0 old.1)
  pub set_is : portions dyes bath (set lo i new.0) (set hi i new.1) ≡ set (portions dyes bath lo hi) i (portion dye (dose dye (get_or bath i 0) new.0 new.1))
  pub within : AllZip IsWithin (portions dyes bath lo hi) (portions dyes bath (set lo i new.0) (set hi i new.1))
  pub old_can : IsPortion (length base) (portion dye (dose dye (get_or bath i 0) old.0 old.1))
  pub new_can : IsPortion (length base) (portion dye (dose dye (get_or bath i 0) new.0 new.1))
  pub mixes : CanMix n base dyes bath (set lo i new.0) (set hi i new.1)

pub narrowed : (n : ℕ) (base : List Ends) (dyes : List DyeData) (bath lo hi : List ℕ) (i : ℕ) (dye : DyeData) (old new : ℕ × ℕ)
    → CanMix n base dyes bath lo hi → HasRange lo hi i old → IsSubrange old new → dye ≡ get_or dyes i dye → IsNarrowed n base dyes bath lo hi i dye old new
narrowed n base dyes bath lo hi i dye old new mixes range sub at =
    let steps = mixes.adds.steps in
    let ps = portions dyes bath lo hi in
    let b = get_or bath i 0 in
    let p : Portion = portion dye (dose dye b old.0 old.1) in
    let q : Portion = portion dye (dose dye b new.0 new.1) in
    let in_lo : i < length lo = slice_get_within lo i old.0 range.fewest in
    let lt : i < length dyes = omega (arith, in_lo, steps.lo_count) in
    let doses_count = length-doses_of dyes bath lo hi steps in
    let in_list : i < length ps = omega (arith, lt, length-dosed dyes (doses_of dyes bath lo hi) doses_count) in
    let few : get_or lo i 0 ≡ old.0 = get_or_from_slice_get lo i old.0 0 range.fewest in
    let many : get_or hi i 0 ≡ old.1 = get_or_from_slice_get hi i old.1 0 range.most in
    let own = dose dye b old.0 old.1 in
    let is : get_or ps i p ≡ p =
    dosed_at dyes (doses_of dyes bath lo hi) i p dye own doses_count lt
    ∙ ap (portion (get_or dyes i dye)) (doses_at dyes bath lo hi i own dye steps lt)
    ∙ (λ j. portion (sym at j) (dose (sym at j) b (few j) (many j))) in
    let set_is : portions dyes bath (set lo i new.0) (set hi i new.1) ≡ set ps i q =
    portions_set dyes bath lo hi i new.0 new.1 dye steps.bath_count steps.lo_count steps.hi_count lt ∙ ap (λ (d : DyeData). set ps i (portion d (dose d b new.0 new.1))) (sym at) in
    let old_can : IsPortion (length base) p = subst (IsPortion (length base)) is (mixes.adds.each i p in_list) in
    let within_portion : IsWithin p q = record {
      dye = refl;
      bath = refl;
      from = mul-le-mul_right dye.step sub.fewest;
      ordered = mul-le-mul_right dye.step sub.ordered;
      upto = mul-le-mul_right dye.step sub.most;
    } in
    let new_can : IsPortion (length base) q = record { ordered = within_portion.ordered; units = under b new.1 old.1 dye.step (mul-le-mul_right dye.step sub.most) old_can.units; waves = old_can.waves } in
    let in_set : AllZip IsWithin ps (set ps i q) = within_set ps i p q (λ k d lt. (mixes.adds.each k d lt).ordered) is within_portion in
    let within : AllZip IsWithin ps (portions dyes bath (set lo i new.0) (set hi i new.1)) = subst (AllZip IsWithin ps) (sym set_is) in_set in
    record {
      in_list = in_list;
      is = is;
      set_is = set_is;
      within = within;
      old_can = old_can;
      new_can = new_can;
      mixes = record {
        adds = record {
          steps = record { few = steps.few; bath_count = steps.bath_count; lo_count = length-set lo i new.0 ∙ steps.lo_count; hi_count = length-set hi i new.1 ∙ steps.hi_count };
          each = subst (All (IsPortion (length base))) (sym set_is) (All-set (IsPortion (length base)) ps i q new_can mixes.adds.each);
        };
        reflects = sums_lower n 0 (2 * 10 ^ 6 * n) ps (portions dyes bath (set lo i new.0) (set hi i new.1)) base within mixes.reflects;
      };
    }
  where
    under : (b x y step : ℕ) → x * step ≤ y * step → b * step + y * step ≤ 40000 → b * step + x * step ≤ 40000
    under b x y step le h = omega (arith, le, h)

-- ---- the sum at a wavelength

-- the sum after narrowing: the old contribution is taken away, the new one added
pub sum_is : (n wave : ℕ) (base : List Ends) (dyes : List DyeData) (bath lo hi : List ℕ) (i : ℕ) (dye : DyeData) (old new : ℕ × ℕ) (k s before after : Ends)
    → IsNarrowed n base dyes bath lo hi i dye old new → slice_get base wave ≡ Some k → slice_get (mixture_ks_at n base (portions dyes bath lo hi)) wave ≡ Some s
    → before ≡ addition_range_at n dye wave (get_or bath i 0) old.0 old.1 → after ≡ addition_range_at n dye wave (get_or bath i 0) new.0 new.1
    → slice_get (mixture_ks_at n base (portions dyes bath (set lo i new.0) (set hi i new.1))) wave ≡ Some (replaced s before after)
sum_is n wave base dyes bath lo hi i dye old new k s before after h here sum was now =
    let ps = portions dyes bath lo hi in
    let b = get_or bath i 0 in
    let p : Portion = portion dye (dose dye b old.0 old.1) in
    let q : Portion = portion dye (dose dye b new.0 new.1) in
    let old_sum = sum_of k (contributions_at n wave ps) in
    let first : Some old_sum ≡ Some s = sym (mixture_is n ps wave base k here) ∙ sum in
    let same : old_sum ≡ s = cc in
    let contributions : contributions_at n wave (portions dyes bath (set lo i new.0) (set hi i new.1)) ≡ replaced (contributions_at n wave ps) (adds n wave p) (adds n wave q) =
    ap (contributions_at n wave) h.set_is ∙ contributions_replaced n wave ps i p q h.in_list h.is in
    let whole : sum_of k (contributions_at n wave (portions dyes bath (set lo i new.0) (set hi i new.1))) ≡ replaced s before after =
    ap (sum_of k) contributions ∙ rest_replaced k (contributions_at n wave ps) (adds n wave p) (adds n wave q) ∙ (λ j. replaced (same j) (sym was j) (sym now j)) in
    mixture_is n (portions dyes bath (set lo i new.0) (set hi i new.1)) wave base k here ∙ ap Some whole

-- it lies within the sum before
pub sum_within : (n wave : ℕ) (base : List Ends) (dyes : List DyeData) (bath lo hi : List ℕ) (i : ℕ) (dye : DyeData) (old new : ℕ × ℕ) (k s before after : Ends)
    → IsNarrowed n base dyes bath lo hi i dye old new → k.lo ≤ℤ k.hi → slice_get base wave ≡ Some k → slice_get (mixture_ks_at n base (portions dyes bath lo hi)) wave ≡ Some s
    → before ≡ addition_range_at n dye wave (get_or bath i 0) old.0 old.1 → after ≡ addition_range_at n dye wave (get_or bath i 0) new.0 new.1
    → Encloses 1 s (replaced s before after)
sum_within n wave base dyes bath lo hi i dye old new k s before after h ordered here sum was now =
    let ps = portions dyes bath lo hi in
    let qs = portions dyes bath (set lo i new.0) (set hi i new.1) in
    let old_sum = sum_of k (contributions_at n wave ps) in
    let new_sum = sum_of k (contributions_at n wave qs) in
    let first : Some old_sum ≡ Some s = sym (mixture_is n ps wave base k here) ∙ sum in
    let same : old_sum ≡ s = cc in
    let second : Some new_sum ≡ Some (replaced s before after) = sym (mixture_is n qs wave base k here) ∙ sum_is n wave base dyes bath lo hi i dye old new k s before after h here sum was now in
    let whole : new_sum ≡ replaced s before after = cc in
    let encloses : Encloses 1 old_sum new_sum = sum_encloses 1 _ _ _ _ (encloses_itself k ordered) (contributions_narrow n wave ps qs h.within) in
    subst (λ (a : Ends). Encloses 1 a (replaced s before after)) same (subst (Encloses 1 old_sum) whole encloses)

-- what holds at a wavelength where the range of a dye is narrowed
pub record IsNarrowedAt (n wave : ℕ) (s : Ends) (base : List Ends) (dyes : List DyeData) (bath lo hi : List ℕ) (i : ℕ) (dye : DyeData) (old new : ℕ × ℕ) : Type 0 where
  pub can : CanNarrow n s dye wave (get_or bath i 0) old new
  pub in_list : wave < length (mixture_ks_at n base (portions dyes bath (set lo i new.0) (set hi i new.1)))
  pub found : slice_get (mixture_ks_at n base (portions dyes bath (set lo i new.0) (set hi i new.1))) wave ≡ Some (narrowed_at n s dye wave (get_or bath i 0) old new)

pub narrow_at : (n wave : ℕ) (sums : List Ends) (s : Ends) (base : List Ends) (dyes : List DyeData) (bath lo hi : List ℕ) (i : ℕ) (dye : DyeData) (old new : ℕ × ℕ)
    → AreSumsOf n sums base dyes bath lo hi → HasRange lo hi i old → IsSubrange old new → dye ≡ get_or dyes i dye → wave < length sums → s ≡ get_or sums wave s
    → IsNarrowedAt n wave s base dyes bath lo hi i dye old new
narrow_at n wave sums s base dyes bath lo hi i dye old new are range sub at lt is =
    let ps = portions dyes bath lo hi in
    let qs = portions dyes bath (set lo i new.0) (set hi i new.1) in
    let b = get_or bath i 0 in
    let k = get_or base wave nothing in
    let h = narrowed n base dyes bath lo hi i dye old new are.mixes range sub at in
    let same : length sums ≡ length base = ap length are.are ∙ length-mixture n ps 0 base in
    let in_base : wave < length base = omega (arith, lt, same) in
    let here : slice_get base wave ≡ Some k = slice_get-get_or base wave nothing in_base in
    let at_wave : slice_get sums wave ≡ Some s = slice_get-get_or sums wave s lt ∙ ap Some (sym is) in
    let sum : slice_get (mixture_ks_at n base ps) wave ≡ Some s = subst (λ (xs : List Ends). slice_get xs wave ≡ Some s) are.are at_wave in
    let before = addition_range_at n dye wave b old.0 old.1 in
    let after = addition_range_at n dye wave b new.0 new.1 in
    record {
      can = record {
        waves = omega (arith, in_base, h.old_can.waves);
        old_adds = record { ordered = omega (arith, sub.fewest, sub.ordered, sub.most); units = together b old.1 dye.step h.old_can.units };
        new_adds = record { ordered = sub.ordered; units = together b new.1 dye.step h.new_can.units };
        within = sum_within n wave base dyes bath lo hi i dye old new k s before after h (are.is_base.range wave nothing in_base).ordered here sum refl refl;
      };
      in_list = omega (arith, in_base, length-mixture n qs 0 base);
      found = sum_is n wave base dyes bath lo hi i dye old new k s before after h here sum refl refl;
    }
  where
    together : (b x step : ℕ) → b * step + x * step ≤ 40000 → (b + x) * step ≤ 40000
    together b x step h = omega (arith, h)

-- the dye of a range exists
pub lt_dyes : (dyes : List DyeData) (bath lo hi : List ℕ) (i : ℕ) (range : ℕ × ℕ) → HaveSteps dyes bath lo hi → HasRange lo hi i range → (i < length dyes) × (i < length bath)
lt_dyes dyes bath lo hi i range steps has =
    let in_lo : i < length lo = slice_get_within lo i range.0 has.fewest in
    (omega (arith, in_lo, steps.lo_count), omega (arith, in_lo, steps.lo_count, steps.bath_count))

-- the sums, once all wavelengths are there
pub all_narrowed : (n wave : ℕ) (sums items : List Ends) (base : List Ends) (dyes : List DyeData) (bath lo hi : List ℕ) (i : ℕ) (dye : DyeData) (old new : ℕ × ℕ)
    → AreSumsOf n sums base dyes bath lo hi → HasRange lo hi i old → IsSubrange old new → dye ≡ get_or dyes i dye → length sums ≤ wave
    → items ≡ take wave (mixture_ks_at n base (portions dyes bath (set lo i new.0) (set hi i new.1)))
    → AreSumsOf n items base dyes bath (set lo i new.0) (set hi i new.1)
all_narrowed n wave sums items base dyes bath lo hi i dye old new are range sub at le so_far =
    let ps = portions dyes bath lo hi in
    let qs = portions dyes bath (set lo i new.0) (set hi i new.1) in
    let same : length sums ≡ length base = ap length are.are ∙ length-mixture n ps 0 base in
    record {
      is_base = are.is_base;
      mixes = (narrowed n base dyes bath lo hi i dye old new are.mixes range sub at).mixes;
      are = all_there (mixture_ks_at n base qs) wave items (omega (arith, le, same, length-mixture n qs 0 base)) so_far;
    }

pub sums_of_box : (n : ℕ) (sums base : List Ends) (dyes : List DyeData) (bath lo hi : List ℕ) → AreSumsOf n sums base dyes bath lo hi → AreSums n sums
sums_of_box n sums base dyes bath lo hi are = are_sums n (portions dyes bath lo hi) base sums are.are are.is_base.count are.mixes.reflects
