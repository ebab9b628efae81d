-- The certificate of a search: its form, and how it is written.
use Rattle.std.specs.Prelude.{ℕ, List, [], ◌∷◌, ◌++◌, codes}
use Rattle.box_core.specs.declared.cert.Cert.{Cert}
use Rattle.box_specs.specs.declared.certificate.CertLine.{CertLine}
use Rattle.box_specs.specs.declared.certificate.Claim.{Claim}
use Rattle.box_cert.specs.Claims.{claim_of, claim_text}
use Rattle.box_cert.specs.Form.{Form, Head, text_by}
use Rattle.box_cert.specs.LineTexts.{as_line}

-- the values of a certificate
pub record Content : Type 0 where
  pub claim : Claim
  pub listed : List (List ℕ)
  pub lines : List CertLine

abbrev pub content : Cert → Content
content cert = record { claim = cert.claim; listed = cert.undecided; lines = cert.lines }

-- the third line
abbrev pub undecided : Head
undecided = record { word = codes "undecided"; least = 0; most = 1000000 }

-- a claim, one list and a tree
abbrev pub cert_form : Form Claim
cert_form = record { header = codes "dye-cert 1"; claim_of = claim_of; claim_text = claim_text; heads = λ claim. undecided ∷ [] }

-- the certificate of a claim, lists and a tree; the form has one list
abbrev pub made : Claim → List (List (List ℕ)) → List CertLine → Content
made claim [] lines = record { claim = claim; listed = []; lines = lines }
made claim (listed ∷ lists) lines = record { claim = claim; listed = listed; lines = lines }

-- the first two lines
unfoldable pub front_text : Claim → List ℕ
front_text claim = as_line cert_form.header ++ as_line (claim_text claim)

-- the whole certificate
unfoldable pub cert_text : Content → List ℕ
cert_text c = text_by cert_form c.claim (c.listed ∷ []) c.lines
