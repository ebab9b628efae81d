use Rattle.std.proofs.Common.{◌≡◌, ◌∙◌, ◌<◌, ◌+◌, ◌-◌, ◌∷◌, ◌++◌, [], List, Some, length, ap, subst, arith}
use Rattle.std.specs.Prelude.{slice_get}
use Rattle.std.proofs.lemmas.List.{length-map, take_all}
use Rattle.interval_specs.specs.Ends.{Ends}
use Rattle.metamerism.specs.Lights.{deltas_under, lights_of}
use Rattle.metamerism.proofs.Lists.{take_read}
use Rattle.metamerism.proofs.comparing.deltas.Goals as goal

pub loop-i-preserved : goal.loop-i-preserved
loop-i-preserved g c =
    let deltas = deltas_under c.args.lights.now c.args.sample.now in
    let i = c.loop-i.i in
    let lt : i < length (lights_of c.args.lights.now) = omega (arith, c.loop-i-test.true, c.count-i-end.ensures.is) in
    let index : i + 1 - 1 ≡ i = omega arith in
    let read : slice_get deltas i ≡ Some c.delta_with.result = subst (λ k. slice_get deltas k ≡ Some c.delta_with.result) index c.delta_with.ensures.is in
    c.push.ensures.items ∙ ap (λ (ds : List Ends). ds ++ c.delta_with.result ∷ []) c.loop-i.invariant ∙ take_read deltas i c.delta_with.result (rw length-map lt) read

pub returns : goal.returns
returns g c =
    let deltas = deltas_under c.args.lights.now c.args.sample.now in
    c.loop-i.invariant ∙ take_all c.loop-i.i deltas (rw length-map (omega (arith, c.loop-i-test.false, c.count-i-end.ensures.is)))
