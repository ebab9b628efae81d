-- A text is read as a certificate exactly where it is the spelling of that certificate.
use Rattle.std.proofs.Common.{◌≡◌, ◌≤◌, ℕ, List, ap, ◌∙◌, subst}
use Rattle.std.specs.Prelude.{Result, Ok, Err, IfOk}
use Rattle.box_core.specs.declared.cert.Cert.{Cert}
use Rattle.box_specs.specs.declared.certificate.CertFault.{CertFault}
use Rattle.box_cert.specs.declared.fault.CertError.{CertError}
use Rattle.box_cert.specs.Spelling.{Content, cert_text, content}
use Rattle.box_cert.specs.Reading.{Gives}
use Rattle.box_cert.specs.Text.{IsCertFor, cert_of}
use Rattle.box_cert.proofs.CertForm.{cert_again}
use Rattle.box_cert.proofs.CertForm.{cert_takes}

pub text_found : (dims : ℕ) (text : List ℕ) (r : Result Cert CertError) → Gives (λ cert. content cert) r (cert_of dims text) → IfOk r (λ cert. text ≡ cert_text (content cert))
text_found dims text (Ok cert) h = cert_takes dims text (content cert) h
text_found dims text (Err e) h = tt

pub text_only : (dims : ℕ) (text : List ℕ) (r : Result Cert CertError) (c : Content) → 1 ≤ dims → Gives (λ cert. content cert) r (cert_of dims text) → IsCertFor dims c → text ≡ cert_text c
    → Gives (λ cert. content cert) r (Ok c)
text_only dims text r c some h fits e =
    let P : Result Content CertFault → Type 0 = λ read. Gives (λ cert. content cert) r read in
    subst P (ap (cert_of dims) e ∙ cert_again dims c some fits) h
