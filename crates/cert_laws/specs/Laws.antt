-- The laws of the certificate that a search ends with.
use Rattle.std.specs.Prelude.{◌≡◌, ◌<◌, ◌≤◌, ℕ, true, Some, None, Ok, List, length}
use Rattle.box_specs.specs.declared.certificate.Claim.{Claim}
use Rattle.box_specs.specs.declared.certificate.Claim.TheVariants.{Floor, Match, NoMatch}
use Rattle.box_specs.specs.Answer.{IsAnswer, is_match}
use Rattle.box_specs.specs.Landscape.{IsLawful, Land}
use Rattle.box_specs.specs.Meaning.{Means}
use Rattle.box_specs.specs.Span.{IsWithin}
use Rattle.box_specs.specs.Tree.{need}
use Rattle.box_specs.specs.Validity.{IsValid}
use Rattle.box_search.specs.Result.{SearchResult, search_result}
use Rattle.box_cert.specs.Spelling.{Content, cert_text}
use Rattle.box_cert.specs.Text.{IsCertFor, cert_of}

-- the result of a search as the content of a certificate
abbrev pub content_of : SearchResult → Content
content_of result = record { claim = result.claim; listed = result.listed; lines = result.lines }

module _ (l : Land) where
  -- the certificate of a search of this budget
  abbrev pub search_cert : ℕ → Content
  search_cert budget = content_of (search_result l budget)

  -- for a budget of up to 1,000,000: its recipes have the dyes of the landscape, and all its
  -- numbers are in their ranges
  abbrev pub ResultFits : Type 0
  ResultFits = IsLawful l → (budget : ℕ) → budget ≤ 1000000 → IsCertFor (length l.top.lo) (search_cert budget)

  -- for such a budget its text has fewer than 40,000,000 bytes
  abbrev pub ResultIsShort : Type 0
  ResultIsShort = IsLawful l → (budget : ℕ) → budget ≤ 1000000 → length (cert_text (search_cert budget)) < 40000000

  -- for such a budget its text is read as the same certificate
  abbrev pub ResultIsRead : Type 0
  ResultIsRead = IsLawful l → (budget : ℕ) → budget ≤ 1000000 → cert_of (length l.top.lo) (cert_text (search_cert budget)) ≡ Ok (search_cert budget)

  -- it is valid, so that a check accepts it
  abbrev pub ResultIsValid : Type 0
  ResultIsValid = IsLawful l → (budget : ℕ) → IsValid l (search_cert budget).claim (search_cert budget).listed (search_cert budget).lines

  -- it means what a valid certificate means
  abbrev pub ResultMeans : Type 0
  ResultMeans = IsLawful l → (budget : ℕ) → Means l (search_cert budget).listed (search_cert budget).claim

  -- What the claim of a search means for the plain list of recipes. The recipe of a match is the
  -- first that is admitted and passes; no match means that no recipe is admitted and passes; for
  -- both the budget suffices. Where it does not, no recipe that costs less than the floor is
  -- admitted and passes
  abbrev pub ClaimHolds : ℕ → Claim → Type 0
  ClaimHolds budget (Match recipe) = (need l ≤ budget) × IsAnswer l (Some recipe.items)
  ClaimHolds budget NoMatch = (need l ≤ budget) × IsAnswer l None
  ClaimHolds budget (Floor cost) =
      (budget < need l) × ((steps : List ℕ) → IsWithin steps l.top → is_match l steps ≡ true → cost ≤ l.cost steps)

  abbrev pub ResultIsFirst : Type 0
  ResultIsFirst = IsLawful l → (budget : ℕ) → ClaimHolds budget (search_cert budget).claim
