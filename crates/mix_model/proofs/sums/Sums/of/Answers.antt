use Rattle.std.proofs.Common.{◌∙◌, ap, lit<, sym, subst}
use Rattle.mix_model.specs.Mixture.{CanMixDoses, dosed, mixture_ks_at}
use Rattle.mix_model.proofs.Doses.{steps_mix}
use Rattle.mix_model.proofs.sums.Sums.of.Goals as goal

pub of_doses-requires : goal.of_doses-requires
of_doses-requires g c =
    (lit< tt, subst (CanMixDoses g.S.Scale.unit c.args.base.now c.args.dyes.now) (sym (c.as_slice.ensures.value ∙ c.doses_of-doses.ensures)) (steps_mix g.S.Scale.unit c.args.base.now c.args.dyes.now c.args.bath.now c.args.lo.now c.args.hi.now c.requires))

pub returns-clause-is : goal.returns-clause-is
returns-clause-is g c = c.of_doses.ensures.is ∙ ap (λ doses. mixture_ks_at g.S.Scale.unit c.args.base.now (dosed c.args.dyes.now doses)) (c.as_slice.ensures.value ∙ c.doses_of-doses.ensures)
