-- The certificate that a text spells, or its first fault.
use Rattle.std.specs.Prelude.{◌≤◌, ℕ, List, length, Result}
use Rattle.box_specs.specs.declared.certificate.CertFault.{CertFault}
use Rattle.box_core.specs.Ranges.{AreOfLength, ClaimFits, first_length, recipes_of}
use Rattle.box_cert.specs.Claims.{HasDims}
use Rattle.box_cert.specs.Form.{read_by}
use Rattle.box_cert.specs.Reading.{AreRecipes, IsTree}
use Rattle.box_cert.specs.Spelling.{Content, cert_form, made}

unfoldable pub cert_of : ℕ → List ℕ → Result Content CertFault
cert_of dims text = read_by cert_form made dims text

-- a certificate of recipes of dims dyes, with each number in its range
pub record IsCertFor (dims : ℕ) (c : Content) : Type 0 where
  pub numbers : ClaimFits c.claim
  pub claim : HasDims dims c.claim
  pub few : length c.listed ≤ 1000000
  pub listed : AreRecipes dims (length c.listed) c.listed
  pub tree : IsTree c.lines

-- the dyes of the recipes of a certificate, 1 where it has none
abbrev pub dyes_of : Content → ℕ
dyes_of c = first_length (recipes_of c.claim c.listed)

-- all recipes of a certificate are of dims dyes, 1 to 12
abbrev pub HaveDyes : ℕ → Content → Type 0
HaveDyes dims c = AreOfLength dims (recipes_of c.claim c.listed)
