use Rattle.std.proofs.Common.{◌*◌, ◌^◌, ap}
use Rattle.interval_specs.specs.Ends.{Ends}
use Rattle.interval_specs.proofs.Held.{held_by, is_ends}
use Rattle.interval_specs.proofs.Ranges.{carry_up_to}
use Rattle.ks_curves.specs.BrokenLine.{broken_over}
use Rattle.ks_curves.specs.Calibration.{nodes_at}
use Rattle.ks_curves.proofs.BrokenRanges.{broken_up_to}
use Rattle.ks_curves.proofs.Values.{IsComputed, computed}
use Rattle.ks_curves.proofs.broken.BrokenLine.value_over.Given as given
use Rattle.ks_curves.proofs.broken.BrokenLine.value_over.Goals as goal
use Rattle.ks_curves.proofs.broken.BrokenLine.value_over.Goals.{After-ends_over-below}

ends : (g : given.Over) (c : After-ends_over-below g) → IsComputed g.S.Scale.unit (broken_over (nodes_at g.S.Scale.unit c.args.substrate.now c.args.wave c.args.dyeings.now) c.args.x0 c.args.x1) c.ends_over-below.result.0 c.ends_over-below.result.1
ends g c =
    computed g.S.Scale.unit _ c.ends_over-below.result.0 c.ends_over-below.result.1 g.S.Scale.most
    (broken_up_to g.S.Scale.unit c.args.substrate.now c.args.wave c.requires.wave c.requires.substrate c.args.dyeings.now c.args.x0 c.args.x1 c.requires.dyeings.some c.requires.dyeings.each c.requires.curves c.requires.ordered c.requires.units)
    (ap (λ (e : Ends). e.lo) c.ends_over-below.ensures) (ap (λ (e : Ends). e.hi) c.ends_over-below.ensures)

pub overflow_cast-below : goal.overflow_cast-below
overflow_cast-below g c = (ends g c).low_fits

pub overflow_cast-above : goal.overflow_cast-above
overflow_cast-above g c = (ends g c).high_fits

pub of_ends-requires : goal.of_ends-requires
of_ends-requires g c = let e = ends g c in held_by _ _ (broken_over (nodes_at g.S.Scale.unit c.args.substrate.now c.args.wave c.args.dyeings.now) c.args.x0 c.args.x1) e.low e.high e.is_held

pub returns-clause-is : goal.returns-clause-is
returns-clause-is g c =
    let e = ends g ((goal.at.returns-clause-is g c).After-ends_over-below) in
    is_ends _ _ _ (broken_over (nodes_at g.S.Scale.unit c.args.substrate.now c.args.wave c.args.dyeings.now) c.args.x0 c.args.x1) c.of_ends.ensures.is e.low e.high

pub returns-clause-range : goal.returns-clause-range
returns-clause-range g c =
    let e = ends g ((goal.at.returns-clause-range g c).After-ends_over-below) in
    carry_up_to (4 * 10 ^ 8 * g.S.Scale.unit) c.of_ends.result _ (returns-clause-is g c) e.range
