-- Verdicts on differences against tolerances in thousandths, at scale n.
use Rattle.std.specs.Prelude.{◌≡◌, ℕ, ◌+◌, ◌*◌, ◌<◌, pos, ◌*ℤ◌, ◌≤ℤ◌, ◌<ℤ◌, List, [], ◌∷◌, Bool, true, false, Option, Some, None, slice_get, int_le, int_lt, if◌then◌else◌}
use Rattle.interval_specs.specs.Ends.{Ends}
use Rattle.metamerism.specs.declared.outcomes.Verdict.{Verdict}
use Rattle.metamerism.specs.declared.outcomes.Verdict.TheVariants.{Fail, Pass, Undecided}

-- the upper end of the difference is within the tolerance
abbrev pub IsPass : ℕ → ℕ → Ends → Type 0
IsPass n tolerance delta = (pos 1000 *ℤ delta.hi) ≤ℤ pos (tolerance * n)

-- the lower end of the difference is above the tolerance
abbrev pub IsFail : ℕ → ℕ → Ends → Type 0
IsFail n tolerance delta = pos (tolerance * n) <ℤ (pos 1000 *ℤ delta.lo)

-- the verdict on the difference under the light with this number
unfoldable pub light_verdict : ℕ → ℕ → ℕ → Ends → Verdict
light_verdict n tolerance number delta =
    if int_le (pos 1000 *ℤ delta.hi) (pos (tolerance * n)) then Pass
    else (if int_lt (pos (tolerance * n)) (pos 1000 *ℤ delta.lo) then Fail number
    else Undecided)

-- whether a verdict makes it certain that the sample fails; nothing, where it is neither certain
-- nor ruled out
abbrev pub is_certain_fail : Verdict → Option Bool
is_certain_fail Pass = Some false
is_certain_fail (Fail number) = Some true
is_certain_fail Undecided = None

-- whether the sample fails under a light, where the difference at scale n decides it
abbrev pub decision_at : ℕ → ℕ → Ends → Option Bool
decision_at n tolerance delta = is_certain_fail (light_verdict n tolerance 1 delta)

-- what the verdict on the difference under a light means: `Pass`, that its upper end is within the
-- tolerance; `Fail`, that its lower end is above it; `Undecided`, nothing
abbrev pub LightVerdictHolds : ℕ → ℕ → Ends → Verdict → Type 0
LightVerdictHolds n tolerance delta Pass = IsPass n tolerance delta
LightVerdictHolds n tolerance delta (Fail number) = IsFail n tolerance delta
LightVerdictHolds n tolerance delta Undecided = Unit {0}

-- the verdict on some lights and those after them: the first light that fails decides, and else one
-- that is undecided
abbrev pub joint : Verdict → Verdict → Verdict
joint Pass after = after
joint (Fail number) after = Fail number
joint Undecided Pass = Undecided
joint Undecided (Fail number) = Fail number
joint Undecided Undecided = Undecided

-- the verdict on lights that are numbered from `number` on
unfoldable pub verdict_from : ℕ → ℕ → List ℕ → List Ends → Verdict
verdict_from n number [] deltas = Pass
verdict_from n number (tolerance ∷ tolerances) [] = Pass
verdict_from n number (tolerance ∷ tolerances) (delta ∷ deltas) = joint (light_verdict n tolerance number delta) (verdict_from n (number + 1) tolerances deltas)

-- the verdict on all lights, of which the first has the number 1
abbrev pub verdict_at : ℕ → List ℕ → List Ends → Verdict
verdict_at n tolerances deltas = verdict_from n 1 tolerances deltas

-- the light at an index has this tolerance, and the sample this difference under it
pub record IsAt (tolerances : List ℕ) (deltas : List Ends) (i tolerance : ℕ) (delta : Ends) : Type 0 where
  pub tolerance_is : slice_get tolerances i ≡ Some tolerance
  pub delta_is : slice_get deltas i ≡ Some delta

-- the light with this number, counted from 1, is the first under which the sample fails
pub record FailsUnder (n : ℕ) (tolerances : List ℕ) (deltas : List Ends) (number : ℕ) : Type 0 where
  pub index : ℕ
  pub number_is : number ≡ index + 1
  pub tolerance : ℕ
  pub delta : Ends
  pub at : IsAt tolerances deltas index tolerance delta
  pub fails : IsFail n tolerance delta
  pub first : (i tolerance : ℕ) (delta : Ends) → i < index → IsAt tolerances deltas i tolerance delta → IsFail n tolerance delta → ⊥

-- what a verdict means: every light passes; or the light of the number fails, as the first one; or
-- no light fails, but one does not pass
abbrev pub VerdictHolds : ℕ → List ℕ → List Ends → Verdict → Type 0
VerdictHolds n tolerances deltas Pass = (i tolerance : ℕ) (delta : Ends) → IsAt tolerances deltas i tolerance delta → IsPass n tolerance delta
VerdictHolds n tolerances deltas (Fail number) = FailsUnder n tolerances deltas number
VerdictHolds n tolerances deltas Undecided =
    ((i tolerance : ℕ) (delta : Ends) → IsAt tolerances deltas i tolerance delta → IsFail n tolerance delta → ⊥)
    × ((i : ℕ) × (tolerance : ℕ) × (delta : Ends) × IsAt tolerances deltas i tolerance delta × (IsPass n tolerance delta → ⊥))
