use Rattle.std.proofs.Common.{◌+◌, sym, ◌∙◌}
use Rattle.std.proofs.lemmas.List.{take_rest}
use Rattle.price_grid.proofs.WordFacts.{one_part, parts_at}
use Rattle.price_grid.proofs.words.first_part.Goals as goal

pub returns-in-Some : goal.returns-in-Some
returns-in-Some c = rw (take_rest c.args.text.now (c.in-Some.at + 1)) (parts_at c.args.text.now c.in-Some.at (sym c.first_comma.ensures.is ∙ c.in-Some.is))

pub returns-in-None : goal.returns-in-None
returns-in-None c = one_part c.args.text.now (sym c.first_comma.ensures.is ∙ c.in-None.is)
