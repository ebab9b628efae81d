use Rattle.fix_bounds.proofs.UnitFloor.{unit_above, unit_below}
use Rattle.fix_bounds.proofs.digits.floor_unit.Goals as goal

pub returns-then-z-ge0 : goal.returns-then-z-ge0
returns-then-z-ge0 g c = unit_above c.args.z c.over_unit.result g.S.Scale.unit c.ranges.z c.if-z-ge0.true c.over_unit.ensures

pub returns-else-z-ge0 : goal.returns-else-z-ge0
returns-else-z-ge0 g c = unit_below c.args.z c.over_unit-else-z-ge0.result g.S.Scale.unit c.ranges.z c.if-z-ge0.false c.over_unit-else-z-ge0.ensures
