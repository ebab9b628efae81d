-- Lists that are made item by item.
use Rattle.std.proofs.Common.{◌≡◌, ◌+◌, ◌<◌, ℕ, zero, suc, List, [], ◌∷◌, ◌++◌, Some, length, get_or, map, take, refl, sym, ap, ◌∙◌, arith}
use Rattle.std.specs.List.{range_with_len}
use Rattle.std.specs.Prelude.{slice_get}
use Rattle.std.proofs.lemmas.List.{map-append, take_more}
use Rattle.std.proofs.lemmas.List.FromFn.{map-range_with_len_more}

-- one more value of a function of the index
pub index_more : {X : Type 0} (f : ℕ → X) (k : ℕ) (x : X) (items new : List X) → items ≡ map f (range_with_len 0 k) → x ≡ f k → new ≡ items ++ x ∷ [] → new ≡ map f (range_with_len 0 (k + 1))
index_more {X = X} f k x items new so_far is pushed =
    pushed ∙ (λ i. so_far i ++ is i ∷ []) ∙ sym (map-range_with_len_more f 0 k k (omega arith))

-- one more value of a function of the items of a list
pub item_more : {X Y : Type 0} (f : X → Y) (xs : List X) (k : ℕ) (x : X) (y : Y) (items new : List Y) → k < length xs → x ≡ get_or xs k x → items ≡ map f (take k xs) → y ≡ f x → new ≡ items ++ y ∷ []
    → new ≡ map f (take (k + 1) xs)
item_more {X = X} f xs k x y items new lt at so_far is pushed =
    let here : y ≡ f (get_or xs k x) = is ∙ ap f at in
    pushed ∙ (λ i. so_far i ++ here i ∷ []) ∙ sym (map-append f (take k xs) (get_or xs k x ∷ [])) ∙ ap (map f) (sym (take_more xs k x lt))

-- the item that is found at an index
pub found_at : {X : Type 0} (xs : List X) (k : ℕ) (x : X) → slice_get xs k ≡ Some x → x ≡ get_or xs k x
found_at [] k x is = absurd cc
found_at (y ∷ xs) zero x is = let e : Some y ≡ Some x = is in let same : x ≡ y = cc in same
found_at (y ∷ xs) (suc k) x is = found_at xs k x is

-- the item at an index within the list, whatever default is given for an index outside it
pub any_other : (xs : List ℕ) (k d e : ℕ) → k < length xs → get_or xs k d ≡ get_or xs k e
any_other [] k d e lt = absurd (omega arith)
any_other (x ∷ xs) zero d e lt = refl
any_other (x ∷ xs) (suc k) d e lt = any_other xs k d e (omega arith)
