-- Corners of boxes.
use Rattle.std.proofs.Common.{◌≡◌, ℕ, List, [], ◌∷◌, refl, subst, arith}
use Rattle.price_grid.specs.Grid.{IsUpTo}
use Rattle.box_specs.specs.Span.{IsBox, IsInside, IsWithin, Span}

pub up_to_itself : (a : List ℕ) → IsUpTo a a
up_to_itself [] = tt
up_to_itself (x ∷ a) = (omega arith, up_to_itself a)

pub up_to_trans : (a b c : List ℕ) → IsUpTo a b → IsUpTo b c → IsUpTo a c
up_to_trans [] [] c h k = k
up_to_trans [] (y ∷ b) c h k = absurd h
up_to_trans (x ∷ a) [] c h k = absurd h
up_to_trans (x ∷ a) (y ∷ b) [] h k = absurd k
up_to_trans (x ∷ a) (y ∷ b) (z ∷ c) h k = (omega (arith, h.0, k.0), up_to_trans a b c h.1 k.1)

-- two corners, each at most the other, are equal
pub up_to_both : (a b : List ℕ) → IsUpTo a b → IsUpTo b a → a ≡ b
up_to_both [] [] h k = refl
up_to_both [] (y ∷ b) h k = absurd h
up_to_both (x ∷ a) [] h k = absurd h
up_to_both (x ∷ a) (y ∷ b) h k =
    let first : x ≡ y = omega (arith, h.0, k.0) in
    λ i. first i ∷ up_to_both a b h.1 k.1 i

-- the lower corner of a box inside another lies within that
pub corner_within : (b c : Span) → IsBox b → IsInside b c → IsWithin b.lo c
corner_within b c box h = (h.0, up_to_trans b.lo b.hi c.hi box h.1)

-- a recipe of a box inside another lies within that
pub within_inside : (r : List ℕ) (b c : Span) → IsWithin r b → IsInside b c → IsWithin r c
within_inside r b c w h = (up_to_trans c.lo b.lo r h.0 w.0, up_to_trans r b.hi c.hi w.1 h.1)

pub inside_itself : (b : Span) → IsInside b b
inside_itself b = (up_to_itself b.lo, up_to_itself b.hi)

-- of two equal boxes, each lies inside the other
pub same_inside : (b c : Span) → b ≡ c → IsInside b c
same_inside b c e = subst (λ d. IsInside b d) e (inside_itself b)
