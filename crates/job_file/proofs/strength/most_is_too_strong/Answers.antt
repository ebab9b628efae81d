use Rattle.std.proofs.Common.{◌≡◌, ◌∙◌, ◌^◌, ap, length, subst, sym}
use Rattle.mix_model.specs.Base.{base_at}
use Rattle.mix_model.specs.Mixture.{CanAdd, CanDose, HaveSteps, doses_of, dosed, no_steps}
use Rattle.mix_model.specs.Strength.{is_too_strong}
use Rattle.mix_model.proofs.Doses.{steps_dose}
use Rattle.mix_model.proofs.MixtureLaws.{length-base}
use Rattle.job_file.proofs.strength.most_is_too_strong.Given as given
use Rattle.job_file.proofs.strength.most_is_too_strong.Goals as goal
use Rattle.job_file.proofs.strength.most_is_too_strong.Goals.{After-as_slice, After-as_slice-2}

none_is : (c : After-as_slice) → c.as_slice.result.now ≡ no_steps c.args.dyes.now
none_is c = c.as_slice.ensures.value ∙ c.no_steps-none.ensures

pub doses_of-doses-requires : goal.doses_of-doses-requires
doses_of-doses-requires c = subst (λ none. HaveSteps c.args.dyes.now c.args.bath.now none c.args.most.now) (sym (none_is ((goal.at.doses_of-doses-requires c).After-as_slice))) c.requires.steps

doses_are : (c : After-as_slice-2) → c.as_slice-2.result.now ≡ doses_of c.args.dyes.now c.args.bath.now (no_steps c.args.dyes.now) c.args.most.now
doses_are c = c.as_slice-2.ensures.value ∙ c.doses_of-doses.ensures ∙ ap (λ none. doses_of c.args.dyes.now c.args.bath.now none c.args.most.now) (c.as_slice.ensures.value ∙ c.no_steps-none.ensures)

pub is_too_strong-requires : goal.is_too_strong-requires
is_too_strong-requires c =
    let d = (goal.at.is_too_strong-requires c).After-as_slice-2 in
    let count = ap length c.of.ensures.is ∙ length-base (10 ^ 12) c.args.base.now in
    let doses = steps_dose (length c.args.base.now) c.args.dyes.now c.args.bath.now (no_steps c.args.dyes.now) c.args.most.now c.requires in
    subst (λ k. CanDose k c.args.dyes.now c.as_slice-2.result.now) (sym count) (subst (CanDose (length c.args.base.now) c.args.dyes.now) (sym (doses_are d)) doses)

pub returns : goal.returns
returns c =
    let d = (goal.at.returns c).After-as_slice-2 in
    c.is_too_strong.ensures ∙ (λ i. is_too_strong (c.of.ensures.is i) (dosed c.args.dyes.now (doses_are d i)))
