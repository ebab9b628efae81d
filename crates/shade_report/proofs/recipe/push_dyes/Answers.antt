use Rattle.std.proofs.Common.{arith}
use Rattle.shade_report.proofs.RecipeLines.{dyes_end, dyes_more}
use Rattle.shade_report.proofs.recipe.push_dyes.Goals as goal

pub loop-i-preserved : goal.loop-i-preserved
loop-i-preserved c =
    dyes_more c.args.load c.args.dyes.now c.args.steps.now c.loop-i.i c.loop-i.text.items c.index-dyes-i.result _ c.push_dye.new.text.items (omega arith) (omega (arith, c.requires.steps)) c.index-dyes-i.is c.loop-i.invariant c.in_ok-push_dye.ensures

pub returns : goal.returns
returns c = dyes_end c.args.load c.args.dyes.now c.args.steps.now c.loop-i.i c.loop-i.text.items (omega arith) c.loop-i.invariant
