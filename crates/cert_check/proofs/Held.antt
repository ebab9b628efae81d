-- What is held for the boxes that wait for their lines.
use Rattle.std.proofs.Common.{◌≡◌, List, ◌∷◌, refl, subst}
use Rattle.std.specs.Prelude.{Option, Some, None}
use Rattle.box_specs.specs.Span.{Span}
use Rattle.box_core.specs.declared.carried.Carried.{Carried}
use Rattle.cert_check.specs.Held.{AllHeld, HalvesAreHeld, IsHeld, both_boxes, boxes}
use Rattle.cert_check.specs.Walk.{with_halves}

module _ {H : Type 0} where
  pub boxes_put : (halves : Option (Carried H × Carried H)) (rest : List (Carried H)) → boxes (with_halves halves rest) ≡ with_halves (both_boxes halves) (boxes rest)
  boxes_put None rest = refl
  boxes_put (Some halves) rest = refl

  module _ (stands : H → Span → Type 0) where
    pub held_put : (halves : Option (Carried H × Carried H)) (rest : List (Carried H)) → HalvesAreHeld stands halves → AllHeld stands rest → AllHeld stands (with_halves halves rest)
    held_put None rest h all = all
    held_put (Some halves) rest h all = (h.0, (h.1, all))

    pub held_first : (before : List (Carried H)) (b : Carried H) (rest : List (Carried H)) → before ≡ b ∷ rest → AllHeld stands before → IsHeld stands b × AllHeld stands rest
    held_first before b rest e all = subst (AllHeld stands) e all
