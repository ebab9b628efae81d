-- A certificate that is read from a file.
use Rattle.std.specs.Prelude.{◌≡◌, ◌<◌, ◌≤◌, ℕ, Bool, true, false, List, length, Option, Some, IfSome, IsSomeAnd, Result, Ok, Err}
use Rattle.shelf_io.specs.Contents.{Contents}
use Rattle.box_core.specs.declared.cert.Cert.{Cert}
use Rattle.box_specs.specs.declared.certificate.CertFault.{CertFault}
use Rattle.box_cert.specs.declared.fault.CertError.{CertError}
use Rattle.box_cert.specs.declared.fault.CertError.TheVariants as errors
use Rattle.box_cert.specs.declared.fault.TakeCertError.{TakeCertError}
use Rattle.box_cert.specs.declared.fault.TakeCertError.TheVariants as reasons
use Rattle.box_cert.specs.declared.read.TheConstants.{CERT_LIMIT}
use Rattle.box_cert.specs.Spelling.{Content, content}
use Rattle.box_cert.specs.Text.{cert_of}

-- a read failed
abbrev pub is_fault : {T : Type 0} → Result T TakeCertError → Bool
is_fault (Ok cert) = false
is_fault (Err reasons.Fault) = true
is_fault (Err reasons.TooLong) = false
is_fault (Err (reasons.Grammar f)) = false
is_fault (Err reasons.Memory) = false

-- what was read of the whole text
abbrev pub taken : {T : Type 0} → Result T CertError → Result T TakeCertError
taken (Ok cert) = Ok cert
taken (Err (errors.Fault f)) = Err (reasons.Grammar f)
taken (Err errors.Memory) = Err reasons.Memory

-- the bytes are the file under the name, where the files are known
abbrev pub IsFile : Option Contents → (name bytes : List ℕ) → Type 0
IsFile contents name bytes = IfSome contents (λ c. c.file name ≡ Some bytes)

-- the file under the name is within the limit, and its text gives this
pub record HasText (contents : Option Contents) (name : List ℕ) (dims : ℕ) (read : Result Content CertFault) : Type 0 where
  pub bytes : List ℕ
  pub file : IsFile contents name bytes
  pub short : length bytes ≤ CERT_LIMIT
  pub gives : cert_of dims bytes ≡ read

-- the certificate or the fault of the text of a whole file, or that the file is too long; nothing is
-- known where a read failed or memory ran out
abbrev pub TakesCert : Option Contents → List ℕ → ℕ → Result Cert TakeCertError → Type 0
TakesCert contents name dims (Ok cert) = HasText contents name dims (Ok (content cert))
TakesCert contents name dims (Err (reasons.Grammar f)) = HasText contents name dims (Err f)
TakesCert contents name dims (Err reasons.TooLong) = IfSome contents (λ c. IsSomeAnd (c.file name) (λ bytes. CERT_LIMIT < length bytes))
TakesCert contents name dims (Err reasons.Fault) = Unit {0}
TakesCert contents name dims (Err reasons.Memory) = Unit {0}
