use Rattle.std.proofs.Common.{◌≡◌, ◌∙◌, [], length, get_or, refl, ap, sym, arith}
use Rattle.spectral_tables.specs.WeightTable.{WeightTable}
use Rattle.std.specs.Cmp.Rules.{signed_items}
use Rattle.metamerism.proofs.TableFacts.{all_same, differ_by_test, more_same, refused, same_by_test, same_tables}
use Rattle.metamerism.proofs.tables.are_same.Goals as goal

pub loop-wave-preserved : goal.loop-wave-preserved
loop-wave-preserved c =
    let one = c.args.one.now.weights in
    let other = c.args.other.now.weights in
    let same = same_by_test _ _ _ c.ne-in-loop-wave.result (signed_items c.at.result c.at-in-loop-wave.result) c.ne-in-loop-wave.ensures c.if-ne-2.false in
    more_same one other c.loop-wave.wave c.at.result c.at-in-loop-wave.result
    (omega (arith, c.loop-wave-test.true, c.waves-wave-end.ensures.is)) (omega (arith, c.loop-wave-test.true, c.waves-wave-end.ensures.is, c.waves.ensures.is, c.waves-2.ensures.is, c.if-waves.false)) c.loop-wave.invariant
    c.at.ensures.is c.at-in-loop-wave.ensures.is same

pub returns : goal.returns
returns c =
    let one = c.args.one.now in
    let other = c.args.other.now in
    let weights = all_same one.weights other.weights c.loop-wave.wave
    (omega (arith, c.loop-wave-test.false, c.waves-wave-end.ensures.is)) (omega (arith, c.loop-wave-test.false, c.waves-wave-end.ensures.is, c.waves.ensures.is, c.waves-2.ensures.is, c.if-waves.false)) c.loop-wave.invariant in
    let white = same_by_test _ _ _ c.ne.result (signed_items c.white.result c.white-2.result) c.ne.ensures c.if-ne.false in
    (λ e. same_tables one other weights (sym c.white.ensures.is ∙ white ∙ c.white-2.ensures.is), λ same. refl)

pub returns-then-waves : goal.returns-then-waves
returns-then-waves c =
    let differ : c.args.one.now ≡ c.args.other.now → ⊥ = λ same. absurd (omega (arith, c.if-waves.true, c.waves.ensures.is, c.waves-2.ensures.is, ap (λ (w : WeightTable). length w.weights) same)) in
    refused c.args.one.now c.args.other.now differ

pub returns-then-ne : goal.returns-then-ne
returns-then-ne c =
    let differ = differ_by_test _ _ _ c.ne.result (signed_items c.white.result c.white-2.result) c.ne.ensures c.if-ne.true in
    refused c.args.one.now c.args.other.now (λ same. differ (c.white.ensures.is ∙ ap (λ (w : WeightTable). w.white) same ∙ sym c.white-2.ensures.is))

pub returns-then-ne-2 : goal.returns-then-ne-2
returns-then-ne-2 c =
    let differ = differ_by_test _ _ _ c.ne-in-loop-wave.result (signed_items c.at.result c.at-in-loop-wave.result) c.ne-in-loop-wave.ensures c.if-ne-2.true in
    refused c.args.one.now c.args.other.now
    (λ same. differ (c.at.ensures.is ∙ ap (λ (w : WeightTable). get_or w.weights c.loop-wave.wave []) same ∙ sym c.at-in-loop-wave.ensures.is))
