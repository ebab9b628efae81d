use Rattle.std.proofs.Common.{◌*◌, ◌^◌, pos, ap, sym, ◌∙◌, arith}
use Rattle.std.specs.Prelude.{int_lt}
use Rattle.fix_bounds.proofs.Passed.{read}
use Rattle.mix_model.specs.Mixture.{dosed, mixture_ks_at}
use Rattle.mix_model.specs.Strength.{is_strong, is_too_strong}
use Rattle.mix_model.proofs.StrengthLaws.{passed_here, not_here, none_left}
use Rattle.mix_model.proofs.strength.is_too_strong.Goals as goal

pub returns-then-hi : goal.returns-then-hi
unfolding is_too_strong
returns-then-hi c =
    let strong = ap (int_lt (pos (10 ^ 6 * 10 ^ 12))) (sym (read _ _ c.hi.type_inv c.hi.ensures.is)) ∙ c.if-hi.true in
    passed_here (is_strong (10 ^ 12)) (mixture_ks_at (10 ^ 12) c.args.base.now (dosed c.args.dyes.now c.args.doses.now)) c.loop-wave.wave c.sum_at.result _ c.sum_at.ensures.is strong c.loop-wave.invariant

pub loop-wave-preserved : goal.loop-wave-preserved
loop-wave-preserved c =
    let weak = ap (int_lt (pos (10 ^ 6 * 10 ^ 12))) (sym (read _ _ c.hi.type_inv c.hi.ensures.is)) ∙ c.if-hi.false in
    not_here (is_strong (10 ^ 12)) (mixture_ks_at (10 ^ 12) c.args.base.now (dosed c.args.dyes.now c.args.doses.now)) c.loop-wave.wave c.sum_at.result _ c.sum_at.ensures.is weak c.loop-wave.invariant

pub returns : goal.returns
unfolding is_too_strong
returns c =
    none_left (is_strong (10 ^ 12)) (10 ^ 12) (dosed c.args.dyes.now c.args.doses.now) c.args.base.now c.loop-wave.wave _ (omega (arith, c.loop-wave-test.false, c.waves-wave-end.ensures.is)) c.loop-wave.invariant
