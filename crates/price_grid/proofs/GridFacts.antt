-- Recipes of a grid.
use Rattle.std.proofs.Common.{◌≡◌, ◌≤◌, ◌<◌, ℕ, zero, suc, List, [], ◌∷◌, length, get_or, All, refl, ap, arith}
use Rattle.std.specs.List.{AllZip}
use Rattle.std.proofs.lemmas.List.{get_or_default}
use Rattle.std.proofs.lemmas.Slice.Zip.{AllZip-long}
use Rattle.price_grid.specs.declared.dye_cost.DyeCost.{DyeCost}
use Rattle.price_grid.specs.Grid.{IsGrid, IsRecipe, IsUpTo}
use Rattle.price_grid.specs.Limits.{with_bath}

-- the default of a look-up past the end of the dyes
abbrev pub no_dye : DyeCost
no_dye = record { step = 0; least = 0; most = 0; price = 0; fee = 0 }

-- what holds of two lists pair by pair holds of the items at one index
pub AllZip-at : {A B : Type 0} (R : A → B → Type 0) (xs : List A) (ys : List B) (i : ℕ) (d : A) (e : B) → AllZip R xs ys → i < length xs → R (get_or xs i d) (get_or ys i e)
AllZip-at R [] ys i d e r l = absurd (omega arith)
AllZip-at R (x ∷ xs) [] i d e r l = absurd r
AllZip-at R (x ∷ xs) (y ∷ ys) zero d e r l = r.0
AllZip-at R (x ∷ xs) (y ∷ ys) (suc i) d e r l = AllZip-at R xs ys i d e r.1 (omega arith)

-- a recipe has a number for each dye
pub recipe-length : (dyes : List DyeCost) (steps : List ℕ) → IsRecipe dyes steps → length steps ≡ length dyes
recipe-length dyes steps r = AllZip-long (λ (dye : DyeCost) (n : ℕ). n ≤ dye.most) dyes steps r

-- no number of a recipe is above the most steps of its dye
pub recipe-at : (dyes : List DyeCost) (steps : List ℕ) (i : ℕ) (d : DyeCost) → IsRecipe dyes steps → i < length dyes → get_or steps i 0 ≤ (get_or dyes i d).most
recipe-at dyes steps i d r l = AllZip-at (λ (dye : DyeCost) (n : ℕ). n ≤ dye.most) dyes steps i d 0 r l

-- no number of a recipe is above 4,000
pub recipe-small : (dyes : List DyeCost) (steps : List ℕ) → IsGrid dyes → IsRecipe dyes steps → All (λ n. n ≤ 4000) steps
recipe-small dyes steps g r k d l =
    let there : k < length dyes = omega (arith, recipe-length dyes steps r) in
    let range = g.ranges k no_dye there in
    let here = recipe-at dyes steps k no_dye r there in
    rw (get_or_default steps k d 0 l) (omega (arith, range.small_most, here))

-- with the bath there is still one number for each dye
pub with_bath-length : (bath steps : List ℕ) → length steps ≡ length bath → length (with_bath bath steps) ≡ length bath
with_bath-length [] steps h = refl
with_bath-length (b ∷ bath) [] h = h
with_bath-length (b ∷ bath) (n ∷ steps) h = ap suc (with_bath-length bath steps (omega arith))

-- a recipe has at least as many steps of each dye as it has
pub up_to_itself : (steps : List ℕ) → IsUpTo steps steps
up_to_itself [] = tt
up_to_itself (n ∷ steps) = (omega arith, up_to_itself steps)
