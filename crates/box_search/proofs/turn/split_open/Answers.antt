use Rattle.box_search.proofs.Turning.{lower_inside, upper_inside}
use Rattle.box_search.proofs.turn.split_open.Goals as goal

pub place_of-lower_place-requires : goal.place_of-lower_place-requires
place_of-lower_place-requires g c = lower_inside c.args.whole.now.part _ _ c.requires.sound.box c.requires.several c.requires.sound.inside c.split-line.ensures.lower.0

pub place_of-upper_place-requires : goal.place_of-upper_place-requires
place_of-upper_place-requires g c = upper_inside c.args.whole.now.part _ _ c.requires.sound.box c.requires.several c.requires.sound.inside c.split-line.ensures.upper.0
