use Rattle.std.proofs.Common.{lit≤}
use Rattle.lab_parts.proofs.Rooms.{square_room, up_to_magnitude}
use Rattle.cmc_bounds.proofs.Calls.{hue_divisor}
use Rattle.cmc_bounds.proofs.difference.hue_divisor.Goals as goal

pub square-requires : goal.square-requires
square-requires g c = let s = c.args.standard.now in square_room g.S.Scale.unit 6 s.sh g.S.Scale.most (lit≤ tt) (up_to_magnitude _ s.sh s.sh_range)

pub returns-clause-least : goal.returns-clause-least
returns-clause-least g c = let s = c.args.standard.now in hue_divisor g.S.Scale.unit s.sh c.square.result g.S.Scale.least s.sh_range s.sh_least c.square.ensures.is
