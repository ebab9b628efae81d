use Rattle.std.proofs.Common.{sym, subst}
use Rattle.std.specs.Prelude.{Result}
use Rattle.box_specs.specs.declared.certificate.CertFault.{CertFault}
use Rattle.box_cert.specs.Reading.{Gives}
use Rattle.box_cert.specs.Spelling.{Content, content}
use Rattle.box_cert.proofs.Ongoing.{text_ends}
use Rattle.box_cert.proofs.reader.Reader.finish.Goals as goal

pub returns-clause-is : goal.returns-clause-is
returns-clause-is c =
    let r = c.args.self in
    let P : Result Content CertFault → Type 0 = λ read. Gives (λ cert. content cert) c.finish.result read in
    subst P (sym (text_ends r.draft r.line.items c.requires.line c.requires.clear)) c.finish.ensures.is
