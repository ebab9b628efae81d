-- A row that grows by one number at a time.
use Rattle.std.proofs.Common.{◌≡◌, ◌<◌, ℕ, List, [], ◌∷◌, ◌++◌, length, get_or, All, ⊎_elim, sym, ap, subst, arith}
use Rattle.std.proofs.lemmas.Bool.{cases_lt}
use Rattle.std.proofs.lemmas.Grind.{get_or_default_zero}
use Rattle.std.proofs.Math.ListN.{get_or-append}
use Rattle.std.proofs.lemmas.List.{get_or_push, length_push}
use Rattle.spectral_tables.specs.Rule.{Rule, IsInRange, IsRow}
use Rattle.spectral_tables.specs.Curve.{IsReflectance}
use Rattle.spectral_tables.specs.CurveFile.{curve_rule}

-- each number is in the range of its name
abbrev pub AreInRange : Rule → List (List ℕ) → List ℕ → Type 0
AreInRange rule names row = (k : ℕ) → k < length row → IsInRange (rule.range_of (get_or names k [])) (get_or row k 0)

pub in_range-push : (rule : Rule) (names : List (List ℕ)) (row : List ℕ) (x : ℕ) → AreInRange rule names row → IsInRange (rule.range_of (get_or names (length row) [])) x
    → AreInRange rule names (row ++ x ∷ [])
in_range-push rule names row x h last = λ k lt.
    ⊎_elim
    (λ l. subst (IsInRange (rule.range_of (get_or names k []))) (sym (get_or-append row (x ∷ []) 0 k l)) (h k l))
    (λ l.
    let end : length row ≡ k = omega (arith, lt, length_push row x) in
    subst (λ (i : ℕ). IsInRange (rule.range_of (get_or names i [])) (get_or (row ++ x ∷ []) k 0)) end
    (subst (IsInRange (rule.range_of (get_or names (length row) []))) (sym (get_or_push row x 0 k end)) last))
    (cases_lt k (length row))

-- the numbers of a curve file's row are reflectances
pub reflectances : (names : List (List ℕ)) (row : List ℕ) → IsRow curve_rule names row → All IsReflectance row
reflectances names row h = λ k d lt. subst IsReflectance (sym (get_or_default_zero row k d lt)) (h.range k lt)
