-- The verdict on all lights names the first light that fails, and so determines how a box is
-- judged.
use Rattle.std.proofs.Common.{◌≡◌, ◌+◌, ◌*◌, ◌<◌, ◌≤◌, ◌*ℤ◌, ◌∙◌, ◌↔◌, ℕ, zero, suc, pos, Bool, true, false, Some, None, is_some, List, [], ◌∷◌, All, length, refl, ap, int_le, if◌then◌else◌, arith}
use Rattle.std.specs.Prelude.{slice_get}
use Rattle.std.specs.List.{AllZip}
use Rattle.std.proofs.lemmas.Int.{ints}
use Rattle.std.proofs.lemmas.List.Elements.{All-cons, All-tail}
use Rattle.interval_specs.specs.Ends.{Ends, IsOrdered}
use Rattle.interval_specs.specs.Encloses.{Encloses}
use Rattle.interval_specs.proofs.Laws.{lt_test}
use Rattle.box_specs.specs.Landscape.{Grade, Land, fails, first_from, judged_by}
use Rattle.metamerism.specs.declared.outcomes.Verdict.{Verdict}
use Rattle.metamerism.specs.declared.outcomes.Verdict.TheVariants.{Fail, Pass, Undecided}
use Rattle.metamerism.specs.Verdicts.{joint, light_verdict, verdict_from}
use Rattle.recipe_judge.specs.Recipes.{failing_light, fails_at, grade_of, is_fail, judged_from, light_fails}

-- a verdict says that a light fails
abbrev pub is_failing : Verdict → Bool
is_failing Pass = false
is_failing (Fail light) = true
is_failing Undecided = false

-- a verdict of a fail under one light means that the lower end is above the tolerance
pub verdict_fails : (n t number : ℕ) (d : Ends) → IsOrdered d → light_verdict n t number d ≡ Fail number → is_fail n t d ≡ true
unfolding light_verdict
verdict_fails n t number d ordered = by (int_le (pos 1000 *ℤ d.hi) (pos (t * n))) (is_fail n t d) refl where
  by : (p f : Bool) → is_fail n t d ≡ f → (if p then Pass else (if f then Fail number else Undecided)) ≡ Fail number → f ≡ true
  by true f is e = absurd cc
  by false true is e = refl
  by false false is e = absurd cc

-- where the ends are in order, the verdict under one light is to fail exactly where the lower end
-- is above the tolerance
pub verdict_not_fails : (n t number : ℕ) (d : Ends) → IsOrdered d → is_failing (light_verdict n t number d) ≡ is_fail n t d
unfolding light_verdict
verdict_not_fails n t number d ordered = by (int_le (pos 1000 *ℤ d.hi) (pos (t * n))) (is_fail n t d) refl refl where
  by : (p f : Bool) → int_le (pos 1000 *ℤ d.hi) (pos (t * n)) ≡ p → is_fail n t d ≡ f → is_failing (if p then Pass else (if f then Fail number else Undecided)) ≡ f
  by true true is_p is_f = absurd (omega (arith, ints))
  by true false is_p is_f = refl
  by false true is_p is_f = refl
  by false false is_p is_f = refl

joint_none : (v after : Verdict) → is_failing v ≡ false → failing_light (joint v after) ≡ failing_light after
joint_none Pass after e = refl
joint_none (Fail k) after e = absurd cc
joint_none Undecided Pass e = refl
joint_none Undecided (Fail k) e = refl
joint_none Undecided Undecided e = refl

-- the verdict under the light with a number names that number
names_number : (n t number : ℕ) (d : Ends) → is_failing (light_verdict n t number d) ≡ true → light_verdict n t number d ≡ Fail number
unfolding light_verdict
names_number n t number d = by (int_le (pos 1000 *ℤ d.hi) (pos (t * n))) (is_fail n t d) where
  by : (p f : Bool) → is_failing (if p then Pass else (if f then Fail number else Undecided)) ≡ true → (if p then Pass else (if f then Fail number else Undecided)) ≡ Fail number
  by true f e = absurd cc
  by false true e = refl
  by false false e = absurd cc

-- the first light that fails is the one that the verdict names
pub first_is : (l : Land) (n number : ℕ) (test : ℕ → Bool) (ts : List ℕ) (ds : List Ends) → length ds ≡ length ts → All IsOrdered ds → ((i : ℕ) → test (number + i) ≡ fails_at n ts ds i)
    → first_from l test number (length ts) ≡ failing_light (verdict_from n number ts ds)
unfolding verdict_from
first_is l n number test [] ds same ordered tests = refl
first_is l n number test (t ∷ ts) [] same ordered tests = absurd (omega (arith, same))
first_is l n number test (t ∷ ts) (d ∷ ds) same ordered tests =
    by (is_fail n t d) refl (first_is l n (number + 1) test ts ds (omega (arith, same)) (All-tail IsOrdered d ds ordered) later)
  where
    later : (i : ℕ) → test (number + 1 + i) ≡ fails_at n ts ds i
    later i = ap test (omega arith) ∙ tests (suc i)

    here : test number ≡ is_fail n t d
    here = ap test (omega arith) ∙ tests 0

    judged_failing : is_failing (light_verdict n t number d) ≡ is_fail n t d
    judged_failing = verdict_not_fails n t number d (ordered 0 d (omega arith))

    by : (f : Bool) → is_fail n t d ≡ f → first_from l test (number + 1) (length ts) ≡ failing_light (verdict_from n (number + 1) ts ds)
        → first_from l test number (suc (length ts)) ≡ failing_light (joint (light_verdict n t number d) (verdict_from n (number + 1) ts ds))
    by true e rest = rw (here ∙ e, names_number n t number d (judged_failing ∙ e)) refl
    by false e rest = rw (here ∙ e, joint_none (light_verdict n t number d) (verdict_from n (number + 1) ts ds) (judged_failing ∙ e)) rest

-- how a box that no limit excludes is judged, by the verdict on its recipes together
pub judged_is : (l : Land) (v : Verdict) (alone : Bool) (g : Grade) → (alone ≡ true → g ≡ grade_of v) → judged_by l None (failing_light v) alone g ≡ judged_from v alone
judged_is l Pass false g h = refl
judged_is l Pass true g h = rw (h refl) refl
judged_is l (Fail k) alone g h = refl
judged_is l Undecided false g h = refl
judged_is l Undecided true g h = rw (h refl) refl

-- a verdict names a light exactly where it is to fail
pub names_light : (v : Verdict) → (is_some (failing_light v) ≡ true) ↔ (grade_of v ≡ fails)
names_light Pass = (λ e. absurd cc, λ e. absurd cc)
names_light (Fail k) = (λ e. refl, λ e. refl)
names_light Undecided = (λ e. absurd cc, λ e. absurd cc)

-- ---- narrower differences

narrower_fails : (n t : ℕ) (d d' : Ends) → Encloses 1 d d' → is_fail n t d ≡ true → is_fail n t d' ≡ true
narrower_fails n t d d' h e = lt_test (pos (t * n)) (pos 1000 *ℤ d'.lo) (omega (arith, ints, h.low))

fails_within : (n : ℕ) (ts : List ℕ) (ds ds' : List Ends) (i : ℕ) → AllZip (Encloses 1) ds ds' → fails_at n ts ds i ≡ true → fails_at n ts ds' i ≡ true
fails_within n [] ds ds' i h e = e
fails_within n (t ∷ ts) [] ds' i h e = absurd cc
fails_within n (t ∷ ts) (d ∷ ds) [] i h e = absurd h
fails_within n (t ∷ ts) (d ∷ ds) (d' ∷ ds') zero h e = narrower_fails n t d d' h.0 e
fails_within n (t ∷ ts) (d ∷ ds) (d' ∷ ds') (suc i) h e = fails_within n ts ds ds' i h.1 e

-- a light that fails over a box fails where the differences are narrower
pub light_fails_within : (n : ℕ) (ts : List ℕ) (ds ds' : List Ends) (light : ℕ) → AllZip (Encloses 1) ds ds' → light_fails n ts ds light ≡ true → light_fails n ts ds' light ≡ true
light_fails_within n ts ds ds' zero h e = e
light_fails_within n ts ds ds' (suc i) h e = fails_within n ts ds ds' i h e

fails_beyond : (n : ℕ) (ts : List ℕ) (ds : List Ends) (i : ℕ) → length ts ≤ i → fails_at n ts ds i ≡ false
fails_beyond n [] ds i h = refl
fails_beyond n (t ∷ ts) [] i h = refl
fails_beyond n (t ∷ ts) (d ∷ ds) zero h = absurd (omega (arith, h))
fails_beyond n (t ∷ ts) (d ∷ ds) (suc i) h = fails_beyond n ts ds i (omega (arith, h))

-- no light fails beyond the last one
pub no_light_beyond : (n : ℕ) (ts : List ℕ) (ds : List Ends) (light : ℕ) → length ts < light → light_fails n ts ds light ≡ false
no_light_beyond n ts ds zero h = refl
no_light_beyond n ts ds (suc i) h = fails_beyond n ts ds i (omega (arith, h))

-- the ends of enclosed intervals are in order
pub enclosed_ordered : (m : ℕ) (ds ds' : List Ends) → AllZip (Encloses m) ds ds' → All IsOrdered ds'
enclosed_ordered m [] [] h = λ k d lt. absurd (omega (arith, lt))
enclosed_ordered m [] (d' ∷ ds') h = absurd h
enclosed_ordered m (d ∷ ds) [] h = absurd h
enclosed_ordered m (d ∷ ds) (d' ∷ ds') h = All-cons IsOrdered d' ds' h.0.ordered (enclosed_ordered m ds ds' h.1)

-- the light at an index fails exactly where the lower end of its difference is above its tolerance
pub fails_at_is : (n : ℕ) (ts : List ℕ) (ds : List Ends) (i t : ℕ) (d : Ends) → slice_get ts i ≡ Some t → slice_get ds i ≡ Some d → fails_at n ts ds i ≡ is_fail n t d
fails_at_is n [] ds i t d h k = absurd cc
fails_at_is n (t' ∷ ts) [] i t d h k = absurd cc
fails_at_is n (t' ∷ ts) (d' ∷ ds) zero t d h k =
    let same : t' ≡ t = cc h in
    let alike : d' ≡ d = cc k in
    rw (same, alike) refl
fails_at_is n (t' ∷ ts) (d' ∷ ds) (suc i) t d h k = fails_at_is n ts ds i t d h k
