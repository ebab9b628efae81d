use Rattle.std.proofs.Common.{arith}
use Rattle.shade_report.proofs.RecipeLines.{lights_end, lights_more}
use Rattle.shade_report.proofs.recipe.push_lights.Goals as goal

pub loop-i-preserved : goal.loop-i-preserved
loop-i-preserved c =
    lights_more c.args.deltas.now c.args.verdicts.now c.loop-i.i c.loop-i.text.items c.index-deltas-i.result _ c.push_light.new.text.items (omega arith) (omega (arith, c.requires)) c.index-deltas-i.is c.loop-i.invariant c.in_ok-push_light.ensures

pub returns : goal.returns
returns c = lights_end c.args.deltas.now c.args.verdicts.now c.loop-i.i c.loop-i.text.items (omega arith) c.loop-i.invariant
