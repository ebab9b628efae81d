-- The text of a refused file, put in two parts.
use Rattle.std.proofs.Common.{◌≡◌, ℕ, List, [], ◌∷◌, ◌++◌, Result, Ok, Err, subst, append_assoc, refl}
use Rattle.std.specs.Prelude.{codes}
use Rattle.shelf_io.specs.Taking.{Puts}
use Rattle.shelf_io.specs.View.{SinkView}
use Rattle.shade_report.specs.Refusals.{no_column_text, refused_text}
use Rattle.shade_report.proofs.Puts.{puts_cut, puts_then}

parts : (name why : List ℕ) → (codes "refused " ++ (name ++ 32 ∷ [])) ++ (why ++ 10 ∷ []) ≡ refused_text name why
parts name why = simp append_assoc refl

module _ {T E : Type 0} (name why : List ℕ) (old new : SinkView) where
  pub refused_cut : (e : E) → Puts {T = T} {E = E} (codes "refused " ++ (name ++ 32 ∷ [])) (Err e) old new → Puts {T = T} {E = E} (refused_text name why) (Err e) old new
  refused_cut e p =
      let P : List ℕ → Type 0 = λ text. Puts {T = T} {E = E} text (Err e) old new in
      subst P (parts name why) (puts_cut (codes "refused " ++ (name ++ 32 ∷ [])) (why ++ 10 ∷ []) e old new p)

  pub refused_then : {U : Type 0} (x : U) (r : Result T E) (mid : SinkView) → Puts {T = U} {E = E} (codes "refused " ++ (name ++ 32 ∷ [])) (Ok x) old mid → Puts (why ++ 10 ∷ []) r mid new → Puts (refused_text name why) r old new
  refused_then x r mid p q =
      let P : List ℕ → Type 0 = λ text. Puts text r old new in
      subst P (parts name why) (puts_then (codes "refused " ++ (name ++ 32 ∷ [])) (why ++ 10 ∷ []) x r old mid new p q)

column_parts : (name column : List ℕ) → codes "refused " ++ (name ++ (codes " no column " ++ (column ++ 10 ∷ []))) ≡ refused_text name (no_column_text column)
column_parts name column = simp append_assoc refl

pub refused_column : {T E : Type 0} (name column : List ℕ) (r : Result T E) (old new : SinkView) → Puts (codes "refused " ++ (name ++ (codes " no column " ++ (column ++ 10 ∷ [])))) r old new → Puts (refused_text name (no_column_text column)) r old new
refused_column name column r old new p =
    let P : List ℕ → Type 0 = λ text. Puts text r old new in
    subst P (column_parts name column) p
