use Rattle.box_cert.specs.Spelling.{content}
use Rattle.box_cert.proofs.CertForm.{cert_again}
use Rattle.box_cert.proofs.Certs.{cert_fits}
use Rattle.box_cert.proofs.laws.each_is_read.Goals as goal

pub returns : goal.returns
returns c = record {
  dyes = λ cert. cert.one_length;
  fits = cert_fits;
  read = λ cert dims h. cert_again dims (content cert) h.some (cert_fits cert dims h);
}
