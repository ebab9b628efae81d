-- What tests of tables tell.
use Rattle.std.proofs.Common.{◌≡◌, ◌↔◌, ◌<◌, ◌≤◌, ◌+◌, ◌∙◌, ℕ, Bool, true, false, not, List, [], ◌∷◌, ◌++◌, length, get_or, take, refl, sym}
use Rattle.std.specs.Bool.{Decides}
use Rattle.std.proofs.lemmas.List.{take_all, take_more}
use Rattle.spectral_tables.specs.WeightTable.{Triple, WeightTable}

-- what a test for a difference did not find, or found
pub same_by_test : {A : Type 0} (x y : A) (b r : Bool) → Decides b (x ≡ y) → r ≡ not b → r ≡ false → x ≡ y
same_by_test x y true r d e h = d.0 refl
same_by_test x y false r d e h = absurd (cc (sym e ∙ h))

pub differ_by_test : {A : Type 0} (x y : A) (b r : Bool) → Decides b (x ≡ y) → r ≡ not b → r ≡ true → x ≡ y → ⊥
differ_by_test x y true r d e h same = cc (sym e ∙ h)
differ_by_test x y false r d e h same = cc (d.1 same)

-- one more wavelength
pub more_same : (xs ys : List Triple) (i : ℕ) (x y : Triple) → i < length xs → i < length ys → take i xs ≡ take i ys → x ≡ get_or xs i [] → y ≡ get_or ys i [] → x ≡ y → take (i + 1) xs ≡ take (i + 1) ys
more_same xs ys i x y lt ltd before p q same =
    let here : get_or xs i [] ≡ get_or ys i [] = sym p ∙ same ∙ q in
    take_more xs i [] lt ∙ (λ j. before j ++ here j ∷ []) ∙ sym (take_more ys i [] ltd)

-- all wavelengths
pub all_same : (xs ys : List Triple) (i : ℕ) → length xs ≤ i → length ys ≤ i → take i xs ≡ take i ys → xs ≡ ys
all_same xs ys i le led same = sym (take_all i xs le) ∙ same ∙ take_all i ys led

pub same_tables : (v w : WeightTable) → v.weights ≡ w.weights → v.white ≡ w.white → v ≡ w
same_tables v w p q = λ i. record { weights = p i; white = q i }

-- the answer where tables differ
pub refused : {A : Type 0} (x y : A) → (x ≡ y → ⊥) → (false ≡ true) ↔ (x ≡ y)
refused x y differ = (λ e. absurd (cc e), λ same. absurd (differ same))
