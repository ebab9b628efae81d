use Rattle.std.proofs.Common.{◌≡◌, ◌∙◌, ◌<◌, ◌+◌, ◌-◌, ◌^◌, Some, refl, sym, subst, ap, length, drop, arith}
use Rattle.std.specs.Prelude.{slice_get}
use Rattle.std.proofs.lemmas.List.{length-map}
use Rattle.metamerism.specs.Lights.{delta_under, deltas_under, lights_of, tolerances_of}
use Rattle.metamerism.specs.Verdicts.{joint, verdict_at, verdict_from}
use Rattle.recipe_judge.proofs.LightTurns.{fail_decides, read_map, undecided_stays, verdict_over, verdict_turn}
use Rattle.metamerism.proofs.PlaceFacts.{fits_at}
use Rattle.recipe_judge.proofs.verdicts.verdict_on.Goals as goal
use Rattle.recipe_judge.proofs.verdicts.verdict_on.Goals.{After-verdict_under, in-Pass, in-Undecided}

-- what the invariant says, by the verdict under the light of this turn
here : (c : After-verdict_under) → joint c.loop-i.so_far (joint c.verdict_under.result (verdict_from (10 ^ 12) (c.loop-i.i + 1 + 1) (drop (c.loop-i.i + 1) (tolerances_of c.args.lights.now)) (drop (c.loop-i.i + 1) (deltas_under c.args.lights.now c.args.sample.now))))
    ≡ verdict_at (10 ^ 12) (tolerances_of c.args.lights.now) (deltas_under c.args.lights.now c.args.sample.now)
here c =
    let i = c.loop-i.i in
    let lights = lights_of c.args.lights.now in
    let light = c.get.result.now in
    let sample = c.args.sample.now in
    let ts = tolerances_of c.args.lights.now in
    let ds = deltas_under c.args.lights.now sample in
    let lt : i < length lights = omega (arith, c.loop-i-test.true, c.count-i-end.ensures.is) in
    let index : i + 1 - 1 ≡ i = omega arith in
    let found : slice_get lights i ≡ Some light = subst (λ k. slice_get lights k ≡ Some light) index c.get.ensures in
    let t = read_map (λ light. light.tolerance) lights i light found in
    let d = read_map (λ light. delta_under light sample) lights i light found in
    let turn = verdict_turn (10 ^ 12) i ts ds light.tolerance (delta_under light sample) (rw length-map lt) t (rw length-map lt) d in
    rw c.verdict_under.ensures.is (ap (joint c.loop-i.so_far) (sym turn) ∙ c.loop-i.invariant.rest)

pub verdict_under-requires : goal.verdict_under-requires
verdict_under-requires c =
    let i = c.loop-i.i in
    let lights = lights_of c.args.lights.now in
    let light = c.get.result.now in
    let lt : i < length lights = omega (arith, c.loop-i-test.true, c.count-i-end.ensures.is) in
    let index : i + 1 - 1 ≡ i = omega arith in
    let found : slice_get lights i ≡ Some light = subst (λ k. slice_get lights k ≡ Some light) index c.get.ensures in
    fits_at lights i light c.args.sample.now lt found c.args.lights.now.equal c.requires

pub returns-in-Fail : goal.returns-in-Fail
returns-in-Fail c =
    let d = (goal.at.returns-in-Fail c).After-verdict_under in
    let after = verdict_from (10 ^ 12) (c.loop-i.i + 1 + 1) (drop (c.loop-i.i + 1) (tolerances_of c.args.lights.now)) (drop (c.loop-i.i + 1) (deltas_under c.args.lights.now c.args.sample.now)) in
    sym (fail_decides c.loop-i.so_far after c.in-Fail.light c.loop-i.invariant.none_fails) ∙ (rw c.in-Fail.is at (here d))

pub loop-i-preserved : goal.loop-i-preserved
loop-i-preserved c =
    let after = verdict_from (10 ^ 12) (c.loop-i.i + 1 + 1) (drop (c.loop-i.i + 1) (tolerances_of c.args.lights.now)) (drop (c.loop-i.i + 1) (deltas_under c.args.lights.now c.args.sample.now)) in
    let h = here (goal.at.loop-i-preserved c).After-verdict_under in
    elim c.match-verdict_under.branch [
      | in-Pass w ↦ record {
        none_fails = rw w.so_far-is c.loop-i.invariant.none_fails;
        rest = rw w.so_far-is (rw w.in-Pass.is at h);
      }
      | in-Undecided w ↦ record {
        none_fails = rw w.so_far-is refl;
        rest = rw w.so_far-is (sym (undecided_stays c.loop-i.so_far after c.loop-i.invariant.none_fails) ∙ (rw w.in-Undecided.is at h));
      }
    ]

pub returns : goal.returns
returns c =
    let lights = lights_of c.args.lights.now in
    verdict_over (10 ^ 12) c.loop-i.i c.loop-i.so_far (tolerances_of c.args.lights.now) (deltas_under c.args.lights.now c.args.sample.now) _
    (rw length-map (omega (arith, c.loop-i-test.false, c.count-i-end.ensures.is))) c.loop-i.invariant.rest
