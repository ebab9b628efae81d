use Rattle.std.proofs.Common.{◌+◌, sym, ap, ◌∙◌}
use Rattle.std.specs.Prelude.{option_map}
use Rattle.std.proofs.lemmas.List.{take_rest}
use Rattle.box_cert.proofs.Cuts.{cut_is, parts}
use Rattle.box_cert.proofs.number.cut_at.Goals as goal

pub returns-in-Some : goal.returns-in-Some
returns-in-Some c = rw (take_rest c.args.text.now (c.in-Some.at + 1)) (sym (cut_is c.args.mark c.args.text.now ∙ ap (option_map (parts c.args.text.now)) (sym c.first_mark.ensures.is ∙ c.in-Some.is)))

pub returns-in-None : goal.returns-in-None
returns-in-None c = sym (cut_is c.args.mark c.args.text.now ∙ ap (option_map (parts c.args.text.now)) (sym c.first_mark.ensures.is ∙ c.in-None.is))
