-- Cubes rise, so that a root is the greatest or the least of its kind.
use Rattle.std.proofs.Common.{ℕ, ◌≡◌, ◌+◌, ◌*◌, ◌≤◌, ◌<◌, arith, mul-le-mul, ⊎_elim}
use Rattle.std.proofs.lemmas.Bool.{cases_lt}

-- no greater number than root has a cube of at most x
pub cube_greatest : (root x : ℕ) → x < (root + 1) * (root + 1) * (root + 1) → (r : ℕ) → r * r * r ≤ x → r ≤ root
cube_greatest root x next r h =
    ⊎_elim (λ l. let k : root + 1 ≤ r = omega arith in let m = mul-le-mul (mul-le-mul k k) k in absurd (omega arith)) (λ l. l) (cases_lt root r)

-- a whole root is the least number whose cube is enough
pub cube_least : (root x : ℕ) → root * root * root ≡ x → (r : ℕ) → x ≤ r * r * r → root ≤ r
cube_least root x e r h =
    ⊎_elim (λ l. let k : r + 1 ≤ root = omega arith in let m = mul-le-mul (mul-le-mul k k) k in absurd (omega arith)) (λ l. l) (cases_lt r root)
