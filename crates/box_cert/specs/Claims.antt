-- The claim of a certificate, as it is written and as it is read.
use Rattle.std.specs.Prelude.{◌≡◌, ◌^◌, ◌≤◌, ◌++◌, ℕ, if◌then◌else◌, List, codes, decimal, length, Option, Some, None, option_map}
use Rattle.std.specs.Str.{bytes_eq}
use Rattle.box_specs.specs.declared.certificate.Claim.{Claim}
use Rattle.box_specs.specs.declared.certificate.Claim.TheVariants.{Floor, Match, NoMatch}
use Rattle.box_cert.specs.LineTexts.{numbers_text}
use Rattle.box_cert.specs.Lines.{cut_at, recipe_of}
use Rattle.box_cert.specs.Numbers.{number_of}

-- the recipe of a match has at least one number
abbrev pub HasNumbers : Claim → Type 0
HasNumbers (Match recipe) = 1 ≤ length recipe.items
HasNumbers NoMatch = Unit {0}
HasNumbers (Floor cost) = Unit {0}

abbrev pub claim_text : Claim → List ℕ
claim_text (Match recipe) = codes "match " ++ numbers_text recipe.items
claim_text NoMatch = codes "none"
claim_text (Floor cost) = codes "floor " ++ decimal cost

-- the claim of a line, which is given whole and cut at its first space, if it has one
abbrev pub claim_in : ℕ → List ℕ → Option (List ℕ × List ℕ) → Option Claim
claim_in dims line None = if bytes_eq line (codes "none") then Some NoMatch else None
claim_in dims line (Some r) =
    if bytes_eq r.0 (codes "match") then option_map (λ ns. Match (record { items = ns })) (recipe_of dims r.1)
    else (if bytes_eq r.0 (codes "floor") then option_map (λ cost. Floor cost) (number_of 0 (10 ^ 15) r.1) else None)

-- the second line
abbrev pub claim_of : ℕ → List ℕ → Option Claim
claim_of dims line = claim_in dims line (cut_at 32 line)

-- the recipe of a match has a number for each dye
abbrev pub HasDims : ℕ → Claim → Type 0
HasDims dims (Match recipe) = length recipe.items ≡ dims
HasDims dims NoMatch = Unit {0}
HasDims dims (Floor cost) = Unit {0}
