use Rattle.std.proofs.Common.{◌≡◌, ◌≤◌, ◌^◌, ◌∙◌, ap, length, map, sym, arith}
use Rattle.std.proofs.lemmas.List.{length-map}
use Rattle.mix_model.specs.Base.{base_at}
use Rattle.mix_model.specs.Mixture.{mixed_at, no_steps, portions}
use Rattle.demo_jobs.specs.Standard.{dye_data, standard, standard_at}
use Rattle.demo_jobs.proofs.Strength.{can_mix}
use Rattle.demo_jobs.proofs.standard.standard.Goals as goal

pub no_steps-bath-requires : goal.no_steps-bath-requires
no_steps-bath-requires c = omega (arith, ap length (c.as_slice.ensures.value ∙ c.in_ok-dyes.ensures), length-map c.args.dyes.now dye_data, c.requires.few)

pub mix-spectrum-requires : goal.mix-spectrum-requires
mix-spectrum-requires c =
    can_mix (10 ^ 12) c.of-base.result c.as_slice-2.result.now c.as_slice-3.result.now c.args.dyes.now c.args.steps.now
    (c.of-base.ensures.is ∙ ap (base_at (10 ^ 12)) c.substrate.ensures.is) (c.as_slice-2.ensures.value ∙ c.in_ok-dyes.ensures)
    (c.as_slice-3.ensures.value ∙ c.no_steps-bath.ensures ∙ ap no_steps (c.as_slice.ensures.value ∙ sym c.as_slice-2.ensures.value))
    c.requires.few c.requires.count c.requires.steps
