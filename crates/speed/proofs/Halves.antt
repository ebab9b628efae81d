-- The halves of a box are boxes, and are inside every box that the box is inside.
use Rattle.std.proofs.Common.{◌≡◌, ℕ, List, [], ◌∷◌, false, sym, subst, arith}
use Rattle.price_grid.specs.Grid.{IsUpTo}
use Rattle.box_specs.specs.Span.{IsBox, IsInside, Span, is_single}
use Rattle.box_specs.specs.Splits.{cut_of, lower_half, upper_half}
use Rattle.box_specs.proofs.Cuts.{cut_fits, from_lower, from_upper, lower_is_box, upper_is_box}

up_to_itself : (a : List ℕ) → IsUpTo a a
up_to_itself [] = tt
up_to_itself (n ∷ a) = (omega arith, up_to_itself a)

up_to_trans : (a b c : List ℕ) → IsUpTo a b → IsUpTo b c → IsUpTo a c
up_to_trans [] [] c h k = k
up_to_trans [] (y ∷ b) c h k = absurd h
up_to_trans (x ∷ a) [] c h k = absurd h
up_to_trans (x ∷ a) (y ∷ b) [] h k = absurd k
up_to_trans (x ∷ a) (y ∷ b) (z ∷ c) h k = (omega (arith, h.0, k.0), up_to_trans a b c h.1 k.1)

pub lower_inside : (b c top : Span) → IsBox b → is_single b ≡ false → IsInside b top → c ≡ lower_half b (cut_of b) → IsInside c top
lower_inside b c top box more h e =
    let cuts = cut_fits b box more in
    let half = lower_half b (cut_of b) in
    let high = from_lower b (cut_of b) box cuts half.hi (lower_is_box b (cut_of b) box cuts, up_to_itself _) in
    subst (λ d. IsInside d top) (sym e) (h.0, up_to_trans half.hi b.hi top.hi high.1 h.1)

pub upper_inside : (b c top : Span) → IsBox b → is_single b ≡ false → IsInside b top → c ≡ upper_half b (cut_of b) → IsInside c top
upper_inside b c top box more h e =
    let cuts = cut_fits b box more in
    let half = upper_half b (cut_of b) in
    let low = from_upper b (cut_of b) box cuts half.lo (up_to_itself _, upper_is_box b (cut_of b) box cuts) in
    subst (λ d. IsInside d top) (sym e) (up_to_trans top.lo b.lo half.lo h.0 low.0, h.1)

pub lower_box : (b c : Span) → IsBox b → is_single b ≡ false → c ≡ lower_half b (cut_of b) → IsBox c
lower_box b c box more e = subst IsBox (sym e) (lower_is_box b (cut_of b) box (cut_fits b box more))

pub upper_box : (b c : Span) → IsBox b → is_single b ≡ false → c ≡ upper_half b (cut_of b) → IsBox c
upper_box b c box more e = subst IsBox (sym e) (upper_is_box b (cut_of b) box (cut_fits b box more))

-- a box is inside itself
pub inside_itself : (b c : Span) → b ≡ c → IsInside b c
inside_itself b c e = subst (IsInside b) e (up_to_itself b.lo, up_to_itself b.hi)
