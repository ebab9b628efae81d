-- What is known of the cutoff and of both lists once they are checked, before the walk over the
-- lines of the tree.
use Rattle.std.specs.Prelude.{◌≡◌, ◌<◌, ℕ, zero, suc, true, Option, Some, None, List, length, slice_index_or, []}
use Rattle.box_specs.specs.declared.certificate.Cutoff.{Cutoff}
use Rattle.box_specs.specs.declared.certificate.Cutoff.TheVariants.{After, From, Never}
use Rattle.box_specs.specs.Landscape.{IsLawful, Land, is_before}
use Rattle.box_specs.specs.Span.{IsWithin}

-- the listed recipe before the one at this index, if there is one
abbrev pub previous_of : List (List ℕ) → ℕ → Option (List ℕ)
previous_of listed zero = None
previous_of listed (suc i) = Some (slice_index_or listed i [])

module _ (l : Land) where
  -- the recipe of a cutoff is one of the grid
  abbrev pub CutoffIsWithin : Cutoff → Type 0
  CutoffIsWithin (After recipe) = IsWithin recipe.items l.top
  CutoffIsWithin (From cost) = Unit {0}
  CutoffIsWithin Never = Unit {0}

  -- the listed recipes are of the grid, and in rising order
  pub record IsSorted (listed : List (List ℕ)) : Type 0 where
    pub grid : (k : ℕ) → k < length listed → IsWithin (slice_index_or listed k []) l.top
    pub rising : (i k : ℕ) → i < k → k < length listed → is_before l (slice_index_or listed i []) (slice_index_or listed k []) ≡ true

  pub record IsReady (cutoff : Cutoff) (matched listed : List (List ℕ)) : Type 0 where
    pub lawful : IsLawful l
    pub cut_off : CutoffIsWithin cutoff
    pub passing : IsSorted matched
    pub undecided : IsSorted listed
