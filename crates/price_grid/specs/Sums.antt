-- Sums over two lists.
use Rattle.std.specs.Prelude.{◌+◌, ℕ, List, [], ◌∷◌}

-- the sum of f x y over the items x and y of two lists, pair by pair
abbrev pub zip_sum : {A B : Type 0} → (A → B → ℕ) → List A → List B → ℕ
zip_sum f [] ys = 0
zip_sum f (x ∷ xs) [] = 0
zip_sum f (x ∷ xs) (y ∷ ys) = f x y + zip_sum f xs ys
