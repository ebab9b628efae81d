-- One more item of a list, as a loop over indexes reads it.
use Rattle.std.proofs.Common.{◌≡◌, ◌<◌, ◌+◌, ℕ, suc, List, [], ◌∷◌, ◌++◌, length, take, drop, All, Some, ap, subst, sym, ◌∙◌, add-one}
use Rattle.std.specs.Prelude.{slice_get}
use Rattle.std.proofs.lemmas.List.{take_more}
use Rattle.std.proofs.lemmas.Option.{get_or_from_slice_get}
use Rattle.std.proofs.Math.Seq.{drop-cons}

-- what holds of all items holds of the one that was read
pub holds_at : {A : Type 0} (P : A → Type 0) (xs : List A) (i : ℕ) (x : A) → i < length xs → slice_get xs i ≡ Some x → All P xs → P x
holds_at P xs i x lt here all = subst P (get_or_from_slice_get xs i x x here) (all i x lt)

-- the items before the next index
pub take_read : {A : Type 0} (xs : List A) (i : ℕ) (x : A) → i < length xs → slice_get xs i ≡ Some x → take i xs ++ x ∷ [] ≡ take (i + 1) xs
take_read {A = A} xs i x lt here = ap (λ (y : A). take i xs ++ y ∷ []) (sym (get_or_from_slice_get xs i x x here)) ∙ sym (take_more xs i x lt)

-- the items from an index on are the item that was read there and those after it
pub drop_read : {A : Type 0} (xs : List A) (i : ℕ) (x : A) → i < length xs → slice_get xs i ≡ Some x → drop i xs ≡ x ∷ drop (i + 1) xs
drop_read {A = A} xs i x lt here = rw add-one (drop-cons xs i x lt ∙ ap (λ (y : A). y ∷ drop (suc i) xs) (get_or_from_slice_get xs i x x here))
