-- Verdicts, light by light.
use Rattle.std.proofs.Common.{◌≡◌, ◌+◌, ◌<◌, ◌≤◌, ℕ, List, length, drop, Some, refl, sym, ap, ◌∙◌}
use Rattle.std.specs.Prelude.{slice_get}
use Rattle.std.proofs.lemmas.List.{drop_all}
use Rattle.interval_specs.specs.Ends.{Ends}
use Rattle.metamerism.specs.Verdicts.{joint, light_verdict, verdict_from}
use Rattle.metamerism.specs.declared.outcomes.Verdict.{Verdict}
use Rattle.metamerism.specs.declared.outcomes.Verdict.TheVariants.{Fail, Pass, Undecided}
use Rattle.metamerism.proofs.Lists.{drop_read}

joint-regroup : (u v w : Verdict) → joint (joint u v) w ≡ joint u (joint v w)
joint-regroup Pass v w = refl
joint-regroup (Fail k) v w = refl
joint-regroup Undecided Pass w = refl
joint-regroup Undecided (Fail k) w = refl
joint-regroup Undecided Undecided Pass = refl
joint-regroup Undecided Undecided (Fail k) = refl
joint-regroup Undecided Undecided Undecided = refl

joint-pass : (u : Verdict) → joint u Pass ≡ u
joint-pass Pass = refl
joint-pass (Fail k) = refl
joint-pass Undecided = refl

-- one more light
pub verdict_more : (n i : ℕ) (so_far : Verdict) (tolerances : List ℕ) (deltas : List Ends) (tolerance : ℕ) (delta : Ends) (all : Verdict)
    → i < length tolerances → slice_get tolerances i ≡ Some tolerance → i < length deltas → slice_get deltas i ≡ Some delta
    → joint so_far (verdict_from n (i + 1) (drop i tolerances) (drop i deltas)) ≡ all
    → joint (joint so_far (light_verdict n tolerance (i + 1) delta)) (verdict_from n (i + 1 + 1) (drop (i + 1) tolerances) (drop (i + 1) deltas)) ≡ all
unfolding verdict_from
verdict_more n i so_far tolerances deltas tolerance delta all lt here ltd hered is =
    let rest = verdict_from n (i + 1 + 1) (drop (i + 1) tolerances) (drop (i + 1) deltas) in
    let step : verdict_from n (i + 1) (drop i tolerances) (drop i deltas) ≡ joint (light_verdict n tolerance (i + 1) delta) rest = rw (drop_read tolerances i tolerance lt here, drop_read deltas i delta ltd hered) refl in
    joint-regroup so_far (light_verdict n tolerance (i + 1) delta) rest ∙ ap (joint so_far) (sym step) ∙ is

pub verdict_end : (n i : ℕ) (so_far : Verdict) (tolerances : List ℕ) (deltas : List Ends) (all : Verdict) → length tolerances ≤ i
    → joint so_far (verdict_from n (i + 1) (drop i tolerances) (drop i deltas)) ≡ all → so_far ≡ all
unfolding verdict_from
verdict_end n i so_far tolerances deltas all le is =
    let none : verdict_from n (i + 1) (drop i tolerances) (drop i deltas) ≡ Pass = rw (drop_all i tolerances le) refl in
    sym (joint-pass so_far) ∙ ap (joint so_far) (sym none) ∙ is
