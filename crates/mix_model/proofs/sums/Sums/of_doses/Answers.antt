use Rattle.std.proofs.Common.{◌≡◌, ◌∙◌, arith}
use Rattle.mix_model.specs.Mixture.{dosed, mixture_ks_at}
use Rattle.mix_model.proofs.Portions.{all_there, are_sums, length-mixture, one_more}
use Rattle.mix_model.proofs.sums.Sums.of_doses.Given as given
use Rattle.mix_model.proofs.sums.Sums.of_doses.Goals as goal
use Rattle.mix_model.proofs.sums.Sums.of_doses.Goals.{After-loop-wave}

pub loop-wave-preserved : goal.loop-wave-preserved
loop-wave-preserved g c =
    let n = g.S.Scale.unit in
    let ps = dosed c.args.dyes.now c.args.doses.now in
    c.push.ensures.items ∙ one_more (mixture_ks_at n c.args.base.now ps) c.loop-wave.wave c.sum_at.result c.loop-wave.ends.items
    (omega (arith, c.loop-wave-test.true, c.waves-wave-end.ensures.is, length-mixture n ps 0 c.args.base.now)) c.sum_at.ensures.is c.loop-wave.invariant

all : (g : given.Over) (c : After-loop-wave g) → c.loop-wave.ends.items ≡ mixture_ks_at g.S.Scale.unit c.args.base.now (dosed c.args.dyes.now c.args.doses.now)
all g c =
    let n = g.S.Scale.unit in
    let ps = dosed c.args.dyes.now c.args.doses.now in
    all_there (mixture_ks_at n c.args.base.now ps) c.loop-wave.wave c.loop-wave.ends.items (omega (arith, c.loop-wave-test.false, c.waves-wave-end.ensures.is, length-mixture n ps 0 c.args.base.now)) c.loop-wave.invariant

pub invariant_of-result : goal.invariant_of-result
invariant_of-result g c = are_sums g.S.Scale.unit (dosed c.args.dyes.now c.args.doses.now) c.args.base.now c.loop-wave.ends.items (all g c) c.waves-wave-end.ensures.held.count c.requires.reflects

pub returns-clause-is : goal.returns-clause-is
returns-clause-is g c = all g c

pub returns-clause-held : goal.returns-clause-held
returns-clause-held g c = are_sums g.S.Scale.unit (dosed c.args.dyes.now c.args.doses.now) c.args.base.now c.loop-wave.ends.items (all g c) c.waves-wave-end.ensures.held.count c.requires.reflects
