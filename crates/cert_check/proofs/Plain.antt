-- The recipes of the grid are those of the plain list.
use Rattle.std.proofs.Common.{◌≡◌, ◌<◌, ℕ, zero, suc, List, [], ◌∷◌, length, get_or, inl, inr, arith}
use Rattle.std.specs.List.{Contains}
use Rattle.box_specs.specs.Landscape.{Land}
use Rattle.box_specs.proofs.Answers.{IsIn, all_listed, listed_within}
use Rattle.cert_check.specs.Laws.{GridIsListed}

to_contains : (r : List ℕ) (xs : List (List ℕ)) → IsIn r xs → Contains xs r
to_contains r [] h = absurd h
to_contains r (x ∷ xs) (inl e) = (0, omega arith, e)
to_contains r (x ∷ xs) (inr h) =
    let c = to_contains r xs h in
    let there : suc c.0 < length (x ∷ xs) = omega (arith, c.1) in
    (suc c.0, there, c.2)

in_at : (r : List ℕ) (xs : List (List ℕ)) (k : ℕ) → k < length xs → get_or xs k r ≡ r → IsIn r xs
in_at r [] k h e = absurd (omega arith)
in_at r (x ∷ xs) zero h e = inl e
in_at r (x ∷ xs) (suc k) h e = inr (in_at r xs k (omega arith) e)

pub grid_is_listed : (l : Land) → GridIsListed l
grid_is_listed l box steps = (
  λ w. to_contains steps _ (all_listed steps l.top.lo l.top.hi w.0 w.1),
  λ c. listed_within steps l.top.lo l.top.hi box (in_at steps _ c.0 c.1 c.2),
)
