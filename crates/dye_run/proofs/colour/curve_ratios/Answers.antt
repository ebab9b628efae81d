use Rattle.std.proofs.Common.{◌∙◌, ◌^◌, length, ap}
use Rattle.recipe_judge.proofs.Waves.{length-spectrum_at}
use Rattle.dye_run.proofs.colour.curve_ratios.Goals as goal

pub ratios-requires : goal.ratios-requires
ratios-requires c = λ kept. ap length c.spectrum-sample.ensures.is ∙ length-spectrum_at (10 ^ 12) c.args.curve.now ∙ c.requires kept
