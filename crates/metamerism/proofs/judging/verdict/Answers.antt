use Rattle.std.proofs.Common.{◌≡◌, ◌<◌, ◌+◌, ◌∙◌, Some, List, length, get_or, sym, ap, arith}
use Rattle.std.specs.Prelude.{slice_get, option_map}
use Rattle.std.proofs.lemmas.List.{length-map}
use Rattle.std.proofs.lemmas.Option.{slice_get-get_or, slice_get-map}
use Rattle.interval_specs.specs.Ends.{Ends}
use Rattle.metamerism.specs.Lights.{lights_of, tolerances_of}
use Rattle.metamerism.specs.Verdicts.{joint, light_verdict}
use Rattle.metamerism.proofs.Verdicts.{verdict_end, verdict_more}
use Rattle.metamerism.proofs.judging.verdict.Goals as goal

pub loop-i-preserved : goal.loop-i-preserved
loop-i-preserved g c =
    let n = g.S.Scale.unit in
    let i = c.loop-i.i in
    let lights = lights_of c.args.lights.now in
    let tolerances = tolerances_of c.args.lights.now in
    let deltas = c.args.deltas.now.each.items in
    let lt : i < length lights = omega (arith, c.loop-i-test.true, c.len-i-end.ensures.is) in
    let ltd : i < length deltas = omega (arith, lt, c.requires) in
    let read : slice_get tolerances i ≡ Some c.at.result.now.tolerance = slice_get-map _ lights i ∙ ap (option_map (λ light. light.tolerance)) c.at.ensures in
    let delta = c.index-as_slice-i.result in
    let same : get_or deltas i delta ≡ delta = ap (λ (ds : List Ends). get_or ds i delta) (sym c.as_slice.ensures.value) ∙ sym c.index-as_slice-i.is in
    let found : slice_get deltas i ≡ Some delta = slice_get-get_or deltas i delta ltd ∙ ap Some same in
    let judged : c.joint-so_far.result ≡ joint c.loop-i.so_far (light_verdict n c.at.result.now.tolerance (i + 1) delta) = c.joint-so_far.ensures ∙ ap (joint c.loop-i.so_far) c.judge_at.ensures.is in
    rw judged (verdict_more n i c.loop-i.so_far tolerances deltas c.at.result.now.tolerance delta _ (rw length-map lt) read ltd found c.loop-i.invariant)

pub returns : goal.returns
returns g c =
    verdict_end g.S.Scale.unit c.loop-i.i c.loop-i.so_far (tolerances_of c.args.lights.now) c.args.deltas.now.each.items _ (rw length-map (omega (arith, c.loop-i-test.false, c.len-i-end.ensures.is))) c.loop-i.invariant
