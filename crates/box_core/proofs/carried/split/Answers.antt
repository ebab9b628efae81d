use Rattle.box_core.proofs.HalfBoxes.{splits_at}
use Rattle.box_core.proofs.carried.split.Goals as goal

pub narrowed-lower-requires-clause-split : goal.narrowed-lower-requires-clause-split
narrowed-lower-requires-clause-split g c =
    splits_at c.args.whole.now.part c.split-cut.result.dye c.split-cut.result.mid c.requires.sound.box c.requires.several c.split-cut.ensures.dye c.split-cut.ensures.mid

pub narrowed-upper-requires-clause-split : goal.narrowed-upper-requires-clause-split
narrowed-upper-requires-clause-split g c =
    splits_at c.args.whole.now.part c.split-cut.result.dye c.split-cut.result.mid c.requires.sound.box c.requires.several c.split-cut.ensures.dye c.split-cut.ensures.mid
