-- Numbers printed with a fixed number of decimals.
use Rattle.std.specs.Prelude.{ℕ, zero, suc, ◌+◌, ◌/◌, ◌%◌, ◌^◌, ℤ, pos, negsuc, List, [], ◌∷◌, ◌++◌, decimal}

-- the last digits of a number, as many as the first argument says
unfoldable pub last_digits : ℕ → ℕ → List ℕ
last_digits zero n = []
last_digits (suc k) n = (48 + n / 10 ^ k % 10) ∷ last_digits k n

-- a point and the decimals, or nothing where there are none
unfoldable pub behind_point : ℕ → ℕ → List ℕ
behind_point zero n = []
behind_point (suc k) n = 46 ∷ last_digits (suc k) n

-- the text of a magnitude that is counted in units of its last decimal place
unfoldable pub unsigned_text : ℕ → ℕ → List ℕ
unsigned_text decimals n = decimal (n / 10 ^ decimals) ++ behind_point decimals n

-- the text of a number that is counted in units of its last decimal place
unfoldable pub fixed_text : ℕ → ℤ → List ℕ
fixed_text decimals (pos n) = unsigned_text decimals n
fixed_text decimals (negsuc n) = 45 ∷ unsigned_text decimals (suc n)

-- both ends with 12 decimals each and two points between them
unfoldable pub pair_text : ℤ → ℤ → List ℕ
pair_text lo hi = fixed_text 12 lo ++ 46 ∷ 46 ∷ fixed_text 12 hi
