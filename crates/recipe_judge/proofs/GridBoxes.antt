-- Boxes of the recipes of a grid.
use Rattle.std.proofs.Common.{◌≡◌, ℕ, List, [], ◌∷◌, length, map, mul-le-mul_right, refl, true, arith}
use Rattle.std.specs.List.{AllZip}
use Rattle.std.proofs.lemmas.List.{length-map}
use Rattle.std.proofs.lemmas.Slice.Eq.{bytes_eq-Decides}
use Rattle.box_specs.specs.Span.{HasDyes, IsBox, IsInside, IsWithin, Span, is_single}
use Rattle.ks_curves.specs.Dye.{DyeData}
use Rattle.mix_model.specs.Laws as mixing
use Rattle.mix_model.specs.Mixture.{dosed, doses_of, portions}
use Rattle.price_grid.specs.declared.dye_cost.DyeCost.{DyeCost}
use Rattle.price_grid.specs.Grid.{IsGrid, IsRecipe, IsUpTo}
use Rattle.recipe_judge.specs.Recipes.{all_recipes}

-- the order of lists of steps is transitive
pub up_to_last : (a b c : List ℕ) → IsUpTo a b → IsUpTo b c → IsUpTo a c
up_to_last [] [] c h g = g
up_to_last [] (y ∷ b) c h g = absurd h
up_to_last (x ∷ a) [] c h g = absurd h
up_to_last (x ∷ a) (y ∷ b) [] h g = absurd g
up_to_last (x ∷ a) (y ∷ b) (z ∷ c) h g = (omega (arith, h.0, g.0), up_to_last a b c h.1 g.1)

-- a list of at most the most steps of each dye is a recipe
pub up_to_most_is_recipe : (grid : List DyeCost) (steps : List ℕ) → IsUpTo steps (map (λ dye. dye.most) grid) → IsRecipe grid steps
up_to_most_is_recipe [] [] h = tt
up_to_most_is_recipe [] (n ∷ steps) h = absurd h
up_to_most_is_recipe (dye ∷ grid) [] h = absurd h
up_to_most_is_recipe (dye ∷ grid) (n ∷ steps) h = (h.0, up_to_most_is_recipe grid steps h.1)

-- a list of at most as many steps of each dye as a recipe has is a recipe
pub fewer_is_recipe : (grid : List DyeCost) (few many : List ℕ) → IsUpTo few many → IsRecipe grid many → IsRecipe grid few
fewer_is_recipe [] [] many h g = tt
fewer_is_recipe [] (n ∷ few) [] h g = absurd h
fewer_is_recipe [] (n ∷ few) (m ∷ many) h g = absurd g
fewer_is_recipe (dye ∷ grid) [] [] h g = absurd g
fewer_is_recipe (dye ∷ grid) [] (m ∷ many) h g = absurd h
fewer_is_recipe (dye ∷ grid) (n ∷ few) [] h g = absurd h
fewer_is_recipe (dye ∷ grid) (n ∷ few) (m ∷ many) h g = (omega (arith, h.0, g.0), fewer_is_recipe grid few many h.1 g.1)

-- the corners of a box of recipes are recipes
pub high_recipe : (grid : List DyeCost) (b : Span) → IsInside b (all_recipes grid) → IsRecipe grid b.hi
high_recipe grid b h = up_to_most_is_recipe grid b.hi h.1

pub low_recipe : (grid : List DyeCost) (b : Span) → IsBox b → IsInside b (all_recipes grid) → IsRecipe grid b.lo
low_recipe grid b box h = up_to_most_is_recipe grid b.lo (up_to_last b.lo b.hi (all_recipes grid).hi box h.1)

-- each list of steps in a box of recipes is a recipe
pub inner_recipe : (grid : List DyeCost) (b : Span) (steps : List ℕ) → IsInside b (all_recipes grid) → IsWithin steps b → IsRecipe grid steps
inner_recipe grid b steps h w = up_to_most_is_recipe grid steps (up_to_last steps b.hi (all_recipes grid).hi w.1 h.1)

-- the box of all recipes is a box
pub all_is_box : (grid : List DyeCost) → IsBox (all_recipes grid)
all_is_box [] = tt
all_is_box (dye ∷ grid) = (omega arith, all_is_box grid)

-- the one recipe of a box is both its corners
pub single_corners : (b : Span) → is_single b ≡ true → b.lo ≡ b.hi
single_corners b e = (bytes_eq-Decides b.lo b.hi).0 e

-- the box of a grid has 1 to 12 dyes
pub all_has_dyes : (grid : List DyeCost) → IsGrid grid → HasDyes (all_recipes grid)
all_has_dyes grid kept =
    let dyes : length {A = ℕ} (map (λ dye. 0) grid) ≡ length grid = length-map grid (λ dye. 0) in
    (omega (arith, dyes, kept.some), omega (arith, dyes, kept.few))

-- the portions of a box are within those of a wider box
pub portions_within : (dyes : List DyeData) (bath low high low' high' : List ℕ) → IsUpTo low low' → IsUpTo low' high' → IsUpTo high' high
    → AllZip mixing.IsWithin (portions dyes bath low high) (portions dyes bath low' high')
unfolding dosed doses_of
portions_within [] bath low high low' high' h k g = tt
portions_within (d ∷ ds) [] low high low' high' h k g = tt
portions_within (d ∷ ds) (b ∷ bath) [] high [] high' h k g = tt
portions_within (d ∷ ds) (b ∷ bath) [] high (l ∷ low') high' h k g = absurd h
portions_within (d ∷ ds) (b ∷ bath) (l ∷ low) high [] high' h k g = absurd h
portions_within (d ∷ ds) (b ∷ bath) (l ∷ low) high (l' ∷ low') [] h k g = absurd k
portions_within (d ∷ ds) (b ∷ bath) (l ∷ low) [] (l' ∷ low') (n' ∷ high') h k g = absurd g
portions_within (d ∷ ds) (b ∷ bath) (l ∷ low) (n ∷ high) (l' ∷ low') (n' ∷ high') h k g = (
  record { dye = refl; bath = refl; from = mul-le-mul_right d.step h.0; ordered = mul-le-mul_right d.step k.0; upto = mul-le-mul_right d.step g.0 },
  portions_within ds bath low high low' high' h.1 k.1 g.1,
)
