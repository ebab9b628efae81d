use Rattle.box_cert.proofs.CertForm.{cert_again}
use Rattle.box_cert.proofs.CertForm.{cert_takes}
use Rattle.box_cert.proofs.laws.one_spelling.Goals as goal

pub returns : goal.returns
returns c = record { again = cert_again; takes = cert_takes }
