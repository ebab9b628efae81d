-- The curve of a book under a name.
use Rattle.std.proofs.Common.{◌≡◌, ℕ, cond, List, [], ◌∷◌, All, Option, Some, None, refl, sym, ap, subst, Bool, true, false, Bor}
use Rattle.std.specs.Global.{Vec}
use Rattle.std.specs.Prelude.{IfSome}
use Rattle.std.specs.Option.{option_map}
use Rattle.std.specs.Map.{lookup}
use Rattle.std.specs.List.{AllByRecursion}
use Rattle.std.specs.Str.{bytes_eq}
use Rattle.std.proofs.lemmas.List.Elements.{recursion_from_All}
use Rattle.spectral_tables.specs.CurveBook.{Book, book_of, curve_named}

-- a name is found under the owned names as in the book
pub named-book_of : (name : List ℕ) (entries : List (Vec ℕ × List ℕ)) → curve_named name (book_of entries) ≡ lookup (λ k. bytes_eq name k.items) entries
named-book_of name [] = refl
named-book_of name (e ∷ es) = ap (cond (bytes_eq name e.0.items) (Some e.1)) (named-book_of name es)

if_some : {A : Type 0} (P : A → Type 0) (b : Bool) (x : A) (o : Option A) → P x → IfSome o P → IfSome (cond b (Some x) o) P
if_some P true x o here there = here
if_some P false x o here there = there

by_recursion : (P : List ℕ → Type 0) (name : List ℕ) (book : Book) → AllByRecursion (λ e. P e.1) book → IfSome (curve_named name book) P
by_recursion P name [] h = tt
by_recursion P name (e ∷ es) h = if_some P (bytes_eq name e.0) e.1 (curve_named name es) h.0 (by_recursion P name es h.1)

through : (P : List ℕ → Type 0) (o : Option (Bor (List ℕ))) → IfSome (option_map (λ c. c.now) o) P → IfSome o (λ c. P c.now)
through P None h = tt
through P (Some c) h = h

-- what holds of each curve holds of the one that was found
pub holds-found : (P : List ℕ → Type 0) (name : List ℕ) (book : Book) (found : Option (Bor (List ℕ))) → option_map (λ c. c.now) found ≡ curve_named name book → All (λ e. P e.1) book
    → IfSome found (λ c. P c.now)
holds-found P name book found is all =
    through P found (subst (λ (o : Option (List ℕ)). IfSome o P) (sym is) (by_recursion P name book (recursion_from_All (λ (e : List ℕ × List ℕ). P e.1) book all)))
