-- What a valid certificate means, over the plain list of recipes.
use Rattle.std.specs.Prelude.{◌≡◌, ◌⊎◌, ◌<◌, ℕ, true, false, List, All}
use Rattle.box_specs.specs.declared.certificate.Claim.{Claim}
use Rattle.box_specs.specs.declared.certificate.Claim.TheVariants.{Floor, Match, NoMatch}
use Rattle.box_specs.specs.declared.certificate.Cutoff.{Cutoff}
use Rattle.box_specs.specs.declared.certificate.Cutoff.TheVariants.{After, From, Never}
use Rattle.box_specs.specs.Answer.{is_match}
use Rattle.box_specs.specs.Landscape.{Land, fails, is_admitted, is_before, passes, unsure}
use Rattle.box_specs.specs.Span.{IsWithin}
use Rattle.box_specs.specs.Validity.{is_listed}

module _ (l : Land) (listed : List (List ℕ)) where
  -- every admitted recipe with the property P fails or is listed
  abbrev pub SettlesAll : (List ℕ → Type 0) → Type 0
  SettlesAll P =
      (steps : List ℕ) → IsWithin steps l.top → is_admitted l steps ≡ true → P steps
      → (l.grade steps ≡ fails) ⊎ (is_listed listed steps ≡ true)

  -- a match: every admitted recipe before it fails or is listed, and it is admitted and passes; no
  -- match: every admitted recipe fails or is listed; a floor: every admitted recipe that costs less
  -- than it fails or is listed
  abbrev pub MeansClaim : Claim → Type 0
  MeansClaim (Match recipe) =
      SettlesAll (λ steps. is_before l steps recipe.items ≡ true)
      × IsWithin recipe.items l.top × (is_admitted l recipe.items ≡ true) × (l.grade recipe.items ≡ passes)
  MeansClaim NoMatch = SettlesAll (λ steps. Unit {0})
  MeansClaim (Floor cost) = SettlesAll (λ steps. l.cost steps < cost)

  -- a recipe of the grid that is admitted and undecided, as each listed one must be
  pub record IsUnsure (steps : List ℕ) : Type 0 where
    pub grid : IsWithin steps l.top
    pub admitted : is_admitted l steps ≡ true
    pub verdict : l.grade steps ≡ unsure

  pub record Means (claim : Claim) : Type 0 where
    pub claimed : MeansClaim claim
    pub unsure : All IsUnsure listed

module _ (l : Land) where
  -- a recipe that a cutoff does not leave out
  abbrev pub IsKept : Cutoff → List ℕ → Type 0
  IsKept (After recipe) steps = is_before l recipe.items steps ≡ false
  IsKept (From cost) steps = l.cost steps < cost
  IsKept Never steps = Unit {0}

  -- a recipe of the grid that is admitted and passes, as each matched one must be
  pub record IsPassing (steps : List ℕ) : Type 0 where
    pub grid : IsWithin steps l.top
    pub matches : is_match l steps ≡ true

  -- What a certificate means that is valid for lists of recipes that pass and that are undecided:
  -- every admitted recipe that the cutoff keeps fails or is in one of the lists, and the recipes of
  -- the lists are as these say
  pub record MeansFor (cutoff : Cutoff) (matched listed : List (List ℕ)) : Type 0 where
    pub settled : SettlesAll l listed (λ steps. IsKept cutoff steps × (is_listed matched steps ≡ false))
    pub passing : All IsPassing matched
    pub unsure : All (IsUnsure l listed) listed
