-- The laws of valid certificates.
use Rattle.std.specs.Prelude.{◌↔◌, ℕ, List}
use Rattle.std.specs.List.{Contains}
use Rattle.box_specs.specs.declared.certificate.CertLine.{CertLine}
use Rattle.box_specs.specs.declared.certificate.Claim.{Claim}
use Rattle.box_specs.specs.declared.certificate.Cutoff.{Cutoff}
use Rattle.box_specs.specs.Answer.{all_recipes}
use Rattle.box_specs.specs.Landscape.{IsLawful, Land}
use Rattle.box_specs.specs.Meaning.{Means, MeansFor}
use Rattle.box_specs.specs.Span.{IsBox, IsWithin}
use Rattle.box_specs.specs.Validity.{IsValid, IsValidFor}

-- what a valid certificate claims holds of the recipes, and each recipe that it lists is admitted
-- and undecided
abbrev pub ValidMeans : Land → Type 0
ValidMeans l = (claim : Claim) (listed : List (List ℕ)) (lines : List CertLine) → IsLawful l → IsValid l claim listed lines → Means l listed claim

-- the same for any lists of recipes that pass and that are undecided
abbrev pub ValidMeansFor : Land → Type 0
ValidMeansFor l =
    (cutoff : Cutoff) (matched listed : List (List ℕ)) (lines : List CertLine)
    → IsLawful l → IsValidFor l cutoff matched listed lines → MeansFor l cutoff matched listed

-- the recipes of the grid, of which a claim speaks, are those of the plain list
abbrev pub GridIsListed : Land → Type 0
GridIsListed l = IsBox l.top → (steps : List ℕ) → IsWithin steps l.top ↔ Contains (all_recipes l) steps
