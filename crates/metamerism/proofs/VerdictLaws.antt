-- The meaning of a verdict on a light holds, and a pass or a fail stays one at every finer scale.
use Rattle.std.proofs.Common.{ℕ, pos, ◌≡◌, ◌↔◌, Bool, true, false, Option, Some, ◌+◌, ◌*◌, ◌<◌, ◌*ℤ◌, ◌≤ℤ◌, if◌then◌else◌, int_le, int_lt, arith, refl, subst, sym}
use Rattle.std.proofs.lemmas.Int.{ints}
use Rattle.interval_specs.specs.Ends.{Ends, IsOrdered}
use Rattle.interval_specs.specs.Encloses.{Encloses}
use Rattle.interval_specs.proofs.Laws.{le_refuses, le_test, lt_test}
use Rattle.interval_specs.proofs.Order.{parts, by_parts, by_parts_lt, to_parts, mono_left}
use Rattle.metamerism.specs.Laws.{VerdictStays}
use Rattle.metamerism.specs.Verdicts.{IsFail, IsPass, LightVerdictHolds, is_certain_fail, light_verdict}
use Rattle.metamerism.specs.declared.outcomes.Verdict.{Verdict}
use Rattle.metamerism.specs.declared.outcomes.Verdict.TheVariants.{Fail, Pass, Undecided}

pub pass_finer : (t n m : ℕ) (d d' : Ends) → Encloses m d d' → IsPass n t d → IsPass (m * n) t d'
pass_finer t n m d d' h within =
    let q = simp parts at (to_parts (pos m *ℤ (pos 1000 *ℤ d.hi)) (pos m *ℤ pos (t * n)) (mono_left m (pos 1000 *ℤ d.hi) (pos (t * n)) within)) in
    let r = simp parts at (to_parts (pos 1000 *ℤ d'.hi) (pos 1000 *ℤ (pos m *ℤ d.hi)) (mono_left 1000 d'.hi (pos m *ℤ d.hi) h.high)) in
    by_parts (pos 1000 *ℤ d'.hi) (pos (t * (m * n))) (simp parts (omega arith))

pub fail_finer : (t n m : ℕ) (d d' : Ends) → 0 < m → Encloses m d d' → IsFail n t d → IsFail (m * n) t d'
fail_finer t n m d d' some h fails =
    let above : pos (t * n + 1) ≤ℤ (pos 1000 *ℤ d.lo) = omega (arith, ints) in
    let q = simp parts at (to_parts (pos m *ℤ pos (t * n + 1)) (pos m *ℤ (pos 1000 *ℤ d.lo)) (mono_left m (pos (t * n + 1)) (pos 1000 *ℤ d.lo) above)) in
    let r = simp parts at (to_parts (pos 1000 *ℤ (pos m *ℤ d.lo)) (pos 1000 *ℤ d'.lo) (mono_left 1000 (pos m *ℤ d.lo) d'.lo h.low)) in
    by_parts_lt (pos (t * (m * n))) (pos 1000 *ℤ d'.lo) (simp parts (omega arith))

-- what a verdict says of the difference under the light with this number
abbrev pub LightSays : ℕ → ℕ → ℕ → Ends → Verdict → Type 0
LightSays n t number d Pass = IsPass n t d × (IsFail n t d → ⊥)
LightSays n t number d (Fail k) = (k ≡ number) × IsFail n t d
LightSays n t number d Undecided = (IsPass n t d → ⊥) × (IsFail n t d → ⊥)

-- where the ends are in order, no difference passes and fails
not_both : (n t : ℕ) (d : Ends) → IsOrdered d → IsPass n t d → IsFail n t d → ⊥
not_both n t d ordered p f = omega (arith, ints)

-- the verdict on a light says so of its difference
pub light_says : (n t number : ℕ) (d : Ends) → IsOrdered d → LightSays n t number d (light_verdict n t number d)
unfolding light_verdict
light_says n t number d ordered = by (int_le (pos 1000 *ℤ d.hi) (pos (t * n))) (int_lt (pos (t * n)) (pos 1000 *ℤ d.lo)) refl refl
  where
    by : (p f : Bool) → int_le (pos 1000 *ℤ d.hi) (pos (t * n)) ≡ p → int_lt (pos (t * n)) (pos 1000 *ℤ d.lo) ≡ f
        → LightSays n t number d (if p then Pass else (if f then Fail number else Undecided))
    by true f is_p is_f = let p : IsPass n t d = omega (arith, ints) in (p, not_both n t d ordered p)
    by false true is_p is_f = (refl, omega (arith, ints))
    by false false is_p is_f = (λ p. omega (arith, ints), λ f. omega (arith, ints))

-- the verdict by what holds of the difference
pub pass_is : (n t number : ℕ) (d : Ends) → IsPass n t d → light_verdict n t number d ≡ Pass
unfolding light_verdict
pass_is n t number d p = rw (le_test (pos 1000 *ℤ d.hi) (pos (t * n)) p) refl

pub fail_is : (n t number : ℕ) (d : Ends) → IsOrdered d → IsFail n t d → light_verdict n t number d ≡ Fail number
unfolding light_verdict
fail_is n t number d ordered f =
    rw (le_refuses (pos 1000 *ℤ d.hi) (pos (t * n)) (omega (arith, ints)), lt_test (pos (t * n)) (pos 1000 *ℤ d.lo) f) refl

-- what the tests found
pub passed : (n t number : ℕ) (d : Ends) → light_verdict n t number d ≡ Pass → IsPass n t d
unfolding light_verdict
passed n t number d = by (int_le (pos 1000 *ℤ d.hi) (pos (t * n))) (int_lt (pos (t * n)) (pos 1000 *ℤ d.lo)) refl
  where
    by : (p f : Bool) → int_le (pos 1000 *ℤ d.hi) (pos (t * n)) ≡ p → (if p then Pass else (if f then Fail number else Undecided)) ≡ Pass → IsPass n t d
    by true f is_p e = omega (arith, ints)
    by false true is_p e = absurd cc
    by false false is_p e = absurd cc

pub failed : (n t number : ℕ) (d : Ends) → light_verdict n t number d ≡ Fail number → IsFail n t d
unfolding light_verdict
failed n t number d = by (int_le (pos 1000 *ℤ d.hi) (pos (t * n))) (int_lt (pos (t * n)) (pos 1000 *ℤ d.lo)) refl
  where
    by : (p f : Bool) → int_lt (pos (t * n)) (pos 1000 *ℤ d.lo) ≡ f → (if p then Pass else (if f then Fail number else Undecided)) ≡ Fail number → IsFail n t d
    by true f is_f e = absurd cc
    by false true is_f e = omega (arith, ints)
    by false false is_f e = absurd cc

pub verdict_stays : VerdictStays
verdict_stays n m t number d d' some h = (
  λ e. pass_is (m * n) t number d' (pass_finer t n m d d' h (passed n t number d e)),
  λ e. fail_is (m * n) t number d' h.ordered (fail_finer t n m d d' some h (failed n t number d e)),
)

-- a pass or a fail at a scale is one at every finer scale
pub verdict_finer : (n m t number : ℕ) (d d' : Ends) → 0 < m → Encloses m d d' → LightVerdictHolds (m * n) t d' (light_verdict n t number d)
unfolding light_verdict
verdict_finer n m t number d d' some h = by (int_le (pos 1000 *ℤ d.hi) (pos (t * n))) (int_lt (pos (t * n)) (pos 1000 *ℤ d.lo)) refl refl
  where
    by : (p f : Bool) → int_le (pos 1000 *ℤ d.hi) (pos (t * n)) ≡ p → int_lt (pos (t * n)) (pos 1000 *ℤ d.lo) ≡ f
        → LightVerdictHolds (m * n) t d' (if p then Pass else (if f then Fail number else Undecided))
    by true f is_p is_f = pass_finer t n m d d' h (omega (arith, ints))
    by false true is_p is_f = fail_finer t n m d d' some h (omega (arith, ints))
    by false false is_p is_f = tt

-- what is certain by a verdict under a light holds of the difference, and the other way round
abbrev pub Decides : ℕ → ℕ → Ends → Option Bool → Type 0
Decides n t d r = ((r ≡ Some true) ↔ IsFail n t d) × ((r ≡ Some false) ↔ IsPass n t d)

by_says : (n t : ℕ) (d : Ends) (v : Verdict) → IsOrdered d → LightSays n t 1 d v → Decides n t d (is_certain_fail v)
by_says n t d Pass o s = ((λ e. absurd (cc e), λ f. absurd (s.1 f)), (λ e. s.0, λ p. refl))
by_says n t d (Fail k) o s = ((λ e. s.1, λ f. refl), (λ e. absurd (cc e), λ p. absurd (not_both n t d o p s.1)))
by_says n t d Undecided o s = ((λ e. absurd (cc e), λ f. absurd (s.1 f)), (λ e. absurd (cc e), λ p. absurd (s.0 p)))

pub decides : (n t : ℕ) (d : Ends) (v : Verdict) (r : Option Bool) → IsOrdered d → v ≡ light_verdict n t 1 d → r ≡ is_certain_fail v → Decides n t d r
decides n t d v r o e h = subst (Decides n t d) (sym h) (by_says n t d v o (subst (LightSays n t 1 d) (sym e) (light_says n t 1 d o)))
