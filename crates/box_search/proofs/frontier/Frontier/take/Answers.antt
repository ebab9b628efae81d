use Rattle.std.proofs.Common.{sym, ◌∙◌}
use Rattle.box_search.specs.Places.{at}
use Rattle.box_search.proofs.Taking.{hand_first, map_first}
use Rattle.box_search.proofs.frontier.Frontier.take.Goals as goal

pub returns-in-Some-clause-first : goal.returns-in-Some-clause-first
returns-in-Some-clause-first g c = hand_first c.args.self.now.hand c.in-Some.first (at c.args.self.now.map) (sym c.take.ensures.value ∙ c.in-Some.is) c.requires

pub returns-in-None-clause-first : goal.returns-in-None-clause-first
returns-in-None-clause-first g c =
    map_first c.args.self.now.hand c.pop_first.result c.args.self.now.map c.pop_first.new.self (sym c.take.ensures.value ∙ c.in-None.is) c.pop_first.ensures.value c.pop_first.ensures.least c.pop_first.ensures.updates
