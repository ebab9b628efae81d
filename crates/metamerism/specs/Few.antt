-- One to four items, in order.
use Rattle.std.specs.Prelude.{List, [], ◌∷◌}
use Rattle.metamerism.specs.declared.few.Few.{Few}
use Rattle.metamerism.specs.declared.few.Few.TheVariants.{Four, One, Three, Two}

abbrev pub items_of : {T : Type 0} → Few T → List T
items_of (One first) = first ∷ []
items_of (Two first second) = first ∷ second ∷ []
items_of (Three first second third) = first ∷ second ∷ third ∷ []
items_of (Four first second third fourth) = first ∷ second ∷ third ∷ fourth ∷ []
