use Rattle.std.proofs.Common.{◌∙◌, [], ap}
use Rattle.box_cert.specs.Feeding.{gives_after, lasting_fault}
use Rattle.box_cert.proofs.Ongoing.{no_fault, text_ends}
use Rattle.box_cert.proofs.feed.CertFeed.feed.Goals as goal

pub returns-in-Ok-clause-fault : goal.returns-in-Ok-clause-fault
returns-in-Ok-clause-fault c =
    let r = c.take.new.self in
    let is = c.in-Ok.ensures.reader in
    ap (λ o. lasting_fault (gives_after o r [])) c.in_default.is
    ∙ ap lasting_fault (text_ends r.draft r.line.items is.line is.clear) ∙ no_fault r.draft
