use Rattle.std.proofs.Common.{◌∙◌, ap}
use Rattle.box_cert.specs.Feeding.{gives}
use Rattle.box_cert.proofs.Drafting.{begins}
use Rattle.box_cert.proofs.reader.Reader.new.Goals as goal

pub returns-clause-gives : goal.returns-clause-gives
returns-clause-gives c = λ text.
    let d = c.new.result in
    ap (λ l. gives d l text) c.new-2.ensures ∙ begins d c.args.dims text c.new.ensures.part c.new.ensures.dims c.new.ensures.number
