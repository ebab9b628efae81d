-- The laws of a search and its certificate.
use Rattle.std.specs.Prelude.{◌≡◌, ◌+◌, ◌*◌, ◌≤◌, ℕ, List, length}
use Rattle.box_specs.specs.declared.certificate.CertLine.{CertLine}
use Rattle.box_specs.specs.declared.certificate.Claim.{Claim}
use Rattle.box_specs.specs.Answer.{all_recipes}
use Rattle.box_specs.specs.Canonical.{IsCanonical}
use Rattle.box_specs.specs.Landscape.{IsLawful, Land}
use Rattle.box_specs.specs.Span.{IsBox}
use Rattle.box_specs.specs.Tree.{need}
use Rattle.box_specs.specs.Validity.{IsValid}
use Rattle.box_search.specs.Result.{SearchResult, search_result}

-- what is canonical for a budget is valid
abbrev pub CanonicalIsValid : Land → Type 0
CanonicalIsValid l =
    IsLawful l → (budget : ℕ) (claim : Claim) (listed : List (List ℕ)) (lines : List CertLine) (boxes : ℕ)
    → IsCanonical l budget claim listed lines boxes → IsValid l claim listed lines

-- among G recipes at most 2G - 1 boxes are needed
abbrev pub NeedIsSmall : Land → Type 0
NeedIsSmall l = IsBox l.top → need l + 1 ≤ 2 * length (all_recipes l)

-- what is canonical for a budget is `search_result` of that budget
abbrev pub ResultIsOne : Land → Type 0
ResultIsOne l =
    IsLawful l → (budget : ℕ) (result : SearchResult)
    → IsCanonical l budget result.claim result.listed result.lines result.boxes → result ≡ search_result l budget

-- for each budget, `search_result` is canonical
abbrev pub ResultIsCanonical : Land → Type 0
ResultIsCanonical l =
    IsLawful l → (budget : ℕ)
    → IsCanonical l budget (search_result l budget).claim (search_result l budget).listed (search_result l budget).lines (search_result l budget).boxes
