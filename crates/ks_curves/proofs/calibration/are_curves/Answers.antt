use Rattle.std.proofs.Common.{All, subst, arith}
use Rattle.std.proofs.lemmas.List.{take_all}
use Rattle.std.proofs.lemmas.List.Elements.{All-more}
use Rattle.spectral_tables.specs.Curve.{IsCurve}
use Rattle.ks_curves.specs.Dye.{Dyeing}
use Rattle.ks_curves.proofs.calibration.are_curves.Goals as goal

pub loop-dyed-preserved : goal.loop-dyed-preserved
loop-dyed-preserved c =
    let d = c.loop-dyed-item.result in
    let curve : IsCurve d.1 = c.waves-in-loop-dyed.ensures.held in
    All-more (λ (x : Dyeing). IsCurve x.1) c.args.dyeings.now c.loop-dyed.dyed-index d c.loop-dyed-test.true c.loop-dyed.invariant (subst (λ (x : Dyeing). IsCurve x.1) c.loop-dyed-item.is curve)

pub returns-clause-dyeings : goal.returns-clause-dyeings
returns-clause-dyeings c = subst (All (λ (x : Dyeing). IsCurve x.1)) (take_all c.loop-dyed.dyed-index c.args.dyeings.now (omega (arith, c.loop-dyed-test.false))) c.loop-dyed.invariant
