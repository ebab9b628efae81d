-- Lists of one or two items.
use Rattle.std.proofs.Common.{◌≡◌, List, [], ◌∷◌, length, get_or, All, ap, sym, arith}
use Rattle.std.proofs.lemmas.List.Elements.{All-cons}

pub one_item : {A : Type 0} (xs : List A) (x : A) → length xs ≡ 1 → x ≡ get_or xs 0 x → xs ≡ x ∷ []
one_item [] x e is = absurd (omega (arith, e))
one_item (y ∷ []) x e is = ap (λ (z : _). z ∷ []) (sym is)
one_item (y ∷ z ∷ ys) x e is = absurd (omega (arith, e))

pub two_items : {A : Type 0} (xs : List A) (x y : A) → length xs ≡ 2 → x ≡ get_or xs 0 x → y ≡ get_or xs 1 y → xs ≡ x ∷ y ∷ []
two_items [] x y e is are = absurd (omega (arith, e))
two_items (z ∷ []) x y e is are = absurd (omega (arith, e))
two_items (z ∷ w ∷ []) x y e is are = λ i. sym is i ∷ sym are i ∷ []
two_items (z ∷ w ∷ v ∷ ys) x y e is are = absurd (omega (arith, e))

pub all_of_one : {A : Type 0} (P : A → Type 0) (x : A) → P x → All P (x ∷ [])
all_of_one P x h = All-cons P x [] h (λ k d lt. absurd (omega (arith, lt)))

pub all_of_two : {A : Type 0} (P : A → Type 0) (x y : A) → P x → P y → All P (x ∷ y ∷ [])
all_of_two P x y h g = All-cons P x (y ∷ []) h (all_of_one P y g)
