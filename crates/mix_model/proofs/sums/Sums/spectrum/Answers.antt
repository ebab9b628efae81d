use Rattle.std.proofs.Common.{◌≡◌, ◌*◌, ◌^◌, ◌≤ℤ◌, ◌<◌, ◌∙◌, pos, length, slice_index_or, ap, sym, subst, arith}
use Rattle.std.proofs.lemmas.List.Elements.{All-push}
use Rattle.interval_specs.specs.Ends.{Ends}
use Rattle.interval_specs.specs.Ranges.{UpTo}
use Rattle.interval_specs.proofs.Ranges.{cut_low_not_negative}
use Rattle.spectral_tables.specs.Grid.{IsWaveCount}
use Rattle.mix_model.specs.Mixture.{reflectances_of}
use Rattle.mix_model.proofs.Portions.{all_reflectances, cut_below, is_spectrum, reflectance_more}
use Rattle.mix_model.proofs.sums.Sums.spectrum.Given as given
use Rattle.mix_model.proofs.sums.Sums.spectrum.Goals as goal
use Rattle.mix_model.proofs.sums.Sums.spectrum.Goals.{After-as_slice}

pub reflect-requires-clause-not_below : goal.reflect-requires-clause-not_below
reflect-requires-clause-not_below g c = rw c.cut_low.ensures.is (cut_low_not_negative g.S.Scale.unit 0 c.sum-item.result)

pub reflect-requires-clause-magnitude : goal.reflect-requires-clause-magnitude
reflect-requires-clause-magnitude g c =
    let n = g.S.Scale.unit in
    let i = c.loop-sum.sum-index in
    let same = c.sum-item.is ∙ ap (λ xs. slice_index_or xs i c.sum-item.result) c.as_slice-sum-items.ensures.value in
    let within : i < length c.self.inside.ends.items = subst (λ xs. i < length xs) c.as_slice-sum-items.ensures.value c.loop-sum-test.true in
    let weak = subst (λ (a : Ends). a.hi ≤ℤ pos (2 * 10 ^ 6 * n)) (sym same) (c.self.invariant.reflects i c.sum-item.result within) in
    rw c.cut_low.ensures.is (cut_below n (2 * 10 ^ 6 * n) c.sum-item.result weak)

pub loop-sum-preserved : goal.loop-sum-preserved
loop-sum-preserved g c =
    let n = g.S.Scale.unit in
    record {
      count = omega (arith, c.push.ensures.len, c.loop-sum.invariant.count);
      so_far = c.push.ensures.items ∙ reflectance_more n c.as_slice-sum-items.result.now c.loop-sum.sum-index c.sum-item.result c.reflect.result c.loop-sum.reflectances.items c.loop-sum-test.true c.sum-item.is
          (c.reflect.ensures.is ∙ rw c.cut_low.ensures.is) c.loop-sum.invariant.so_far;
      range = rw c.push.ensures.items (All-push (UpTo n) c.loop-sum.reflectances.items c.reflect.result c.loop-sum.invariant.range c.reflect.ensures.range);
    }

all : (g : given.Over) (c : After-as_slice g) → c.loop-sum.reflectances.items ≡ reflectances_of g.S.Scale.unit c.as_slice-sum-items.result.now
all g c = all_reflectances g.S.Scale.unit c.as_slice-sum-items.result.now c.loop-sum.sum-index c.loop-sum.reflectances.items (omega (arith, c.loop-sum-test.false)) c.loop-sum.invariant.so_far

pub of-requires : goal.of-requires
of-requires g c =
    let count = subst (λ xs. IsWaveCount (length xs)) (sym c.as_slice-sum-items.ensures.value) c.self.invariant.count in
    is_spectrum g.S.Scale.unit c.as_slice-sum-items.result.now c.loop-sum.reflectances.items c.as_slice.result.now c.as_slice.ensures.value (all g c) count c.loop-sum.invariant.range

pub returns-clause-is : goal.returns-clause-is
returns-clause-is g c =
    c.of.ensures.is ∙ c.as_slice.ensures.value ∙ all g ((goal.at.returns-clause-is g c).After-as_slice) ∙ ap (reflectances_of g.S.Scale.unit) (c.as_slice-sum-items.ensures.value ∙ c.self.view_is)
