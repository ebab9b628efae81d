-- The ranges of the numbers of a certificate.
use Rattle.std.specs.Prelude.{◌≡◌, ◌≤◌, ◌^◌, ℕ, List, [], ◌∷◌, All, length}
use Rattle.box_specs.specs.declared.certificate.CertLine.{CertLine}
use Rattle.box_specs.specs.declared.certificate.CertLine.TheVariants.{Dear, Fail, Limit, Pass, Split, Undecided}
use Rattle.box_specs.specs.declared.certificate.Claim.{Claim}
use Rattle.box_specs.specs.declared.certificate.Claim.TheVariants.{Floor, Match, NoMatch}

-- a recipe of up to 4,000 steps of each dye
abbrev pub StepsFit : List ℕ → Type 0
StepsFit steps = All (λ n. n ≤ 4000) steps

-- a line of a dye from 1 to 12, of a limit from 1 to 5, of a light from 1 to 4
abbrev pub LineFits : CertLine → Type 0
LineFits (Split dye mid) = (1 ≤ dye) × (dye ≤ 12) × (mid ≤ 4000)
LineFits (Limit k) = (1 ≤ k) × (k ≤ 5)
LineFits (Fail j) = (1 ≤ j) × (j ≤ 4)
LineFits Dear = Unit {0}
LineFits Undecided = Unit {0}
LineFits Pass = Unit {0}

-- a floor of up to 10^15 cost units
abbrev pub ClaimFits : Claim → Type 0
ClaimFits (Match recipe) = StepsFit recipe.items
ClaimFits NoMatch = Unit {0}
ClaimFits (Floor cost) = cost ≤ 10 ^ 15

-- the recipes of a certificate, that of a match among them
abbrev pub recipes_of : Claim → List (List ℕ) → List (List ℕ)
recipes_of (Match recipe) listed = recipe.items ∷ listed
recipes_of NoMatch listed = listed
recipes_of (Floor cost) listed = listed

-- all recipes have the same number of dyes, from 1 to 12
pub record AreOfLength (count : ℕ) (recipes : List (List ℕ)) : Type 0 where
  pub some : 1 ≤ count
  pub few : count ≤ 12
  pub each : All (λ steps. length steps ≡ count) recipes

abbrev pub first_length : List (List ℕ) → ℕ
first_length [] = 1
first_length (steps ∷ rest) = length steps

abbrev pub HaveOneLength : Claim → List (List ℕ) → Type 0
HaveOneLength claim listed = AreOfLength (first_length (recipes_of claim listed)) (recipes_of claim listed)
