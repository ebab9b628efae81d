-- Sums over two lists.
use Rattle.std.proofs.Common.{◌≡◌, ◌+◌, ◌*◌, ◌≤◌, ◌<◌, ℕ, List, [], ◌∷◌, length, get_or, drop, refl, add-one, arith}
use Rattle.std.specs.List.{AllZip}
use Rattle.std.proofs.Math.Seq.{drop-cons}
use Rattle.price_grid.specs.Sums.{zip_sum}

module _ {A B : Type 0} (f : A → B → ℕ) where
  -- the sum from an index on is f of the items there plus the sum after it
  pub zip_sum-drop : (xs : List A) (ys : List B) (i : ℕ) (x : A) (y : B) → i < length xs → i < length ys
      → zip_sum f (drop i xs) (drop i ys) ≡ f (get_or xs i x) (get_or ys i y) + zip_sum f (drop (i + 1) xs) (drop (i + 1) ys)
  zip_sum-drop xs ys i x y l k = rw (add-one, drop-cons xs i x l, drop-cons ys i y k) refl

  -- a sum of numbers that are each up to a bound
  pub zip_sum-bound : (R : A → B → Type 0) (most : ℕ) → ((x : A) (y : B) → R x y → f x y ≤ most) → (xs : List A) (ys : List B) → AllZip R xs ys → zip_sum f xs ys ≤ length xs * most
  zip_sum-bound R most h [] ys r = omega arith
  zip_sum-bound R most h (x ∷ xs) [] r = omega arith
  zip_sum-bound R most h (x ∷ xs) (y ∷ ys) r =
      let here : f x y ≤ most = h x y r.0 in
      let rest : zip_sum f xs ys ≤ length xs * most = zip_sum-bound R most h xs ys r.1 in
      grind arith

  -- a sum grows with its second list
  pub zip_sum-grows : {R : B → B → Type 0} → ((x : A) (y z : B) → R y z → f x y ≤ f x z) → (xs : List A) (ys zs : List B) → AllZip R ys zs → zip_sum f xs ys ≤ zip_sum f xs zs
  zip_sum-grows h [] ys zs r = omega arith
  zip_sum-grows h (x ∷ xs) [] zs r = omega arith
  zip_sum-grows h (x ∷ xs) (y ∷ ys) [] r = absurd r
  zip_sum-grows h (x ∷ xs) (y ∷ ys) (z ∷ zs) r =
      let here : f x y ≤ f x z = h x y z r.0 in
      let rest : zip_sum f xs ys ≤ zip_sum f xs zs = zip_sum-grows h xs ys zs r.1 in
      omega arith
