-- The undecided recipes, one after the other.
use Rattle.std.proofs.Common.{◌≡◌, ℕ, List, [], ◌∷◌, ◌++◌, codes, flat_map, length, map, refl, sym, ap, ◌∙◌, append_assoc}
use Rattle.std.proofs.lemmas.List.{length-map}
use Rattle.shade_report.specs.Outcomes.{count_line, listed_text, undecided_text}
use Rattle.shade_report.specs.Recipes.{shown_view}
use Rattle.shade_report.specs.declared.shown.Shown.{Shown}

-- the texts of the items' views
each_view : {A B : Type 0} (f : B → List ℕ) (view : A → B) (xs : List A) → flat_map (λ x. f (view x)) xs ≡ flat_map f (map view xs)
each_view f view [] = refl
each_view f view (x ∷ xs) = ap (λ t. f (view x) ++ t) (each_view f view xs)

-- before the first recipe
pub undecided_start : (listed : List Shown) (text new : List ℕ) → new ≡ text ++ count_line (codes "undecided ") (length listed)
    → new ++ flat_map (λ (s : Shown). listed_text (shown_view s)) listed ≡ text ++ undecided_text (map shown_view listed)
unfolding undecided_text
undecided_start listed text new is =
    let rest = flat_map (λ (s : Shown). listed_text (shown_view s)) listed in
    let head = count_line (codes "undecided ") (length listed) in
    ap (λ t. t ++ rest) is ∙ append_assoc text head rest
    ∙ (λ i. text ++ (count_line (codes "undecided ") (sym (length-map listed shown_view) i) ++ each_view listed_text shown_view listed i))
