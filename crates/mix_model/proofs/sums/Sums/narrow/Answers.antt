use Rattle.std.proofs.Common.{◌≤◌, ◌<◌, ◌∙◌, ℕ, List, length, get_or, ap, arith}
use Rattle.interval_specs.specs.Ends.{Ends}
use Rattle.mix_model.specs.Mixture.{mixture_ks_at, portions}
use Rattle.mix_model.specs.Sums.{AreSumsOf, HasRange}
use Rattle.std.specs.Prelude.{slice_set}
use Rattle.mix_model.proofs.Narrowing.{IsNarrowedAt, all_narrowed, narrow_at, sums_of_box}
use Rattle.mix_model.proofs.Portions.{one_more}
use Rattle.mix_model.proofs.sums.Sums.narrow.Given as given
use Rattle.mix_model.proofs.sums.Sums.narrow.Goals as goal
use Rattle.mix_model.proofs.sums.Sums.narrow.Goals.{After-index-as_slice-wave, After-loop-wave}

here : (g : given.Over) (c : After-index-as_slice-wave g) (base : List Ends) (lo hi : List ℕ) → AreSumsOf g.S.Scale.unit c.args.self.now base c.args.dyes.now c.args.bath.now lo hi → HasRange lo hi c.args.dye c.args.old
    → IsNarrowedAt g.S.Scale.unit c.loop-wave.wave c.index-as_slice-wave.result base c.args.dyes.now c.args.bath.now lo hi c.args.dye c.index-dyes-dye.result c.args.old c.args.new
here g c base lo hi are range =
    let within : c.loop-wave.wave < length c.args.self.now = omega (arith, c.loop-wave-test.true, c.len-wave-end.ensures.value, ap length c.self.view_is) in
    let same = c.index-as_slice-wave.is ∙ ap (λ xs. get_or xs c.loop-wave.wave c.index-as_slice-wave.result) (c.as_slice.ensures.value ∙ c.self.view_is) in
    narrow_at g.S.Scale.unit c.loop-wave.wave c.args.self.now c.index-as_slice-wave.result base c.args.dyes.now c.args.bath.now lo hi c.args.dye c.index-dyes-dye.result c.args.old c.args.new
    are range c.requires.within c.index-dyes-dye.is within same

pub narrowed_at-requires : goal.narrowed_at-requires
narrowed_at-requires g c =
    (here g ((goal.at.narrowed_at-requires g c).After-index-as_slice-wave) c.requires.sums.base c.requires.sums.lo c.requires.sums.hi c.requires.sums.are c.requires.sums.range_is).can

pub loop-wave-preserved : goal.loop-wave-preserved
loop-wave-preserved g c = λ base lo hi are range.
    let h = here g ((goal.at.loop-wave-preserved g c).After-index-as_slice-wave) base lo hi are range in
    let all = mixture_ks_at g.S.Scale.unit base (portions c.args.dyes.now c.args.bath.now (slice_set lo c.args.dye c.args.new.0) (slice_set hi c.args.dye c.args.new.1)) in
    c.push.ensures.items ∙ one_more all c.loop-wave.wave c.narrowed_at.result c.loop-wave.ends.items h.in_list (rw c.narrowed_at.ensures h.found) (c.loop-wave.invariant base lo hi are range)

every : (g : given.Over) (c : After-loop-wave g) (base : List Ends) (lo hi : List ℕ) → AreSumsOf g.S.Scale.unit c.args.self.now base c.args.dyes.now c.args.bath.now lo hi → HasRange lo hi c.args.dye c.args.old
    → AreSumsOf g.S.Scale.unit c.loop-wave.ends.items base c.args.dyes.now c.args.bath.now (slice_set lo c.args.dye c.args.new.0) (slice_set hi c.args.dye c.args.new.1)
every g c base lo hi are range =
    let last : length c.args.self.now ≤ c.loop-wave.wave = omega (arith, c.loop-wave-test.false, c.len-wave-end.ensures.value, ap length c.self.view_is) in
    all_narrowed g.S.Scale.unit c.loop-wave.wave c.args.self.now c.loop-wave.ends.items base c.args.dyes.now c.args.bath.now lo hi c.args.dye c.index-dyes-dye.result c.args.old c.args.new
    are range c.requires.within c.index-dyes-dye.is last (c.loop-wave.invariant base lo hi are range)

pub invariant_of-result : goal.invariant_of-result
invariant_of-result g c =
    sums_of_box g.S.Scale.unit c.loop-wave.ends.items c.requires.sums.base c.args.dyes.now c.args.bath.now (slice_set c.requires.sums.lo c.args.dye c.args.new.0) (slice_set c.requires.sums.hi c.args.dye c.args.new.1)
    (every g c c.requires.sums.base c.requires.sums.lo c.requires.sums.hi c.requires.sums.are c.requires.sums.range_is)

pub returns : goal.returns
returns g c = every g c
