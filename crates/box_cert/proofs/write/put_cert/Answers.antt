use Rattle.std.proofs.Common.{◌≡◌, ◌≤◌, ◌++◌, ◌∷◌, ◌∙◌, ℕ, List, [], decimal, length, flat_map, map, sym, ap, subst, All}
use Rattle.std.specs.Prelude.{codes}
use Rattle.arrayvec.specs.ArrayVec.{ArrayVec}
use Rattle.box_core.specs.Ranges.{StepsFit}
use Rattle.box_specs.specs.declared.certificate.CertLine.{CertLine}
use Rattle.box_cert.specs.Form.{count_text}
use Rattle.box_cert.specs.LineTexts.{as_line, lines_text, numbers_text, recipes_text}
use Rattle.box_cert.specs.Spelling.{cert_text, front_text, undecided}
use Rattle.box_cert.specs.Writing.{Goes, GoesOn, GoesWrong}
use Rattle.box_cert.proofs.Certs.{all_items, length_map, listed_have, recipes_same}
use Rattle.box_cert.proofs.Pieces.{on_goes, on_wrong, wrong_more}
use Rattle.box_cert.proofs.Wholes.{brackets}
use Rattle.box_cert.proofs.write.put_cert.Goals as goal

-- a list as the code holds it and as a plain list of recipes
list_same : (rs : List (ArrayVec ℕ)) (listed : List (List ℕ)) → map (λ s. s.items) rs ≡ listed
    → as_line (codes "undecided" ++ (32 ∷ decimal (length rs))) ++ flat_map (λ (s : ArrayVec ℕ). as_line (numbers_text s.items)) rs ≡ as_line (count_text undecided (length listed)) ++ recipes_text listed
list_same rs listed e =
    let size : length rs ≡ length listed = sym (length_map rs) ∙ ap length e in
    ap (λ n. as_line (codes "undecided" ++ (32 ∷ decimal n)) ++ flat_map (λ (s : ArrayVec ℕ). as_line (numbers_text s.items)) rs) size
    ∙ ap (λ t. as_line (count_text undecided (length listed)) ++ t) (recipes_same rs ∙ ap recipes_text e)

pub put_list-requires-clause-some : goal.put_list-requires-clause-some
put_list-requires-clause-some g c =
    let P : List (List ℕ) → Type 0 = λ xs. All (λ s. 1 ≤ length s) xs in
    all_items (λ s. 1 ≤ length s) c.as_slice-recipes.result.now (subst P (sym c.as_slice-recipes.ensures) (listed_have c.args.cert.now.claim c.args.cert.now.undecided c.args.cert.now.one_length))

pub put_list-requires-clause-fit : goal.put_list-requires-clause-fit
put_list-requires-clause-fit g c =
    let P : List (List ℕ) → Type 0 = λ xs. All StepsFit xs in
    all_items StepsFit c.as_slice-recipes.result.now (subst P (sym c.as_slice-recipes.ensures) c.args.cert.now.numbers.1)

pub returns-in_default : goal.returns-in_default
unfolding cert_text front_text
returns-in_default g c =
    let cert = c.args.cert.now in
    let old = g.H.Shelf.view c.args.shelf.now in
    let new = g.H.Shelf.view c.put.new.shelf in
    let name = c.args.name.now in
    let F = front_text cert.claim in
    let C = as_line (count_text undecided (length cert.undecided)) in
    let R = recipes_text cert.undecided in
    let L = lines_text cert.lines in
    let P : List ℕ → Type 0 = λ t. GoesWrong name t [] old new in
    let Q : List ℕ → Type 0 = λ w. GoesWrong name c.as_slice.result.now w old new in
    let first : GoesWrong name F [] old new = subst P (c.as_slice.ensures.value ∙ c.front-front.ensures) (subst Q c.new-waiting.ensures c.in_default.ensures.goes) in
    subst P (brackets F R L C) (wrong_more name F ((C ++ R) ++ L) [] old new first)

pub returns-in_default-put_list : goal.returns-in_default-put_list
unfolding cert_text front_text
returns-in_default-put_list g c =
    let cert = c.args.cert.now in
    let old = g.H.Shelf.view c.args.shelf.now in
    let mid = g.H.Shelf.view c.put.new.shelf in
    let new = g.H.Shelf.view c.put_list.new.shelf in
    let still = c.put.new.waiting.items in
    let name = c.args.name.now in
    let F = front_text cert.claim in
    let C = as_line (count_text undecided (length cert.undecided)) in
    let R = recipes_text cert.undecided in
    let L = lines_text cert.lines in
    let P : List ℕ → Type 0 = λ t. GoesOn name t [] old still mid in
    let Q : List ℕ → Type 0 = λ w. GoesOn name c.as_slice.result.now w old still mid in
    let first : GoesOn name F [] old still mid = subst P (c.as_slice.ensures.value ∙ c.front-front.ensures) (subst Q c.new-waiting.ensures c.in-Ok.ensures.goes) in
    let S : List ℕ → Type 0 = λ t. GoesWrong name t still mid new in
    let second : GoesWrong name (C ++ R) still mid new = subst S (list_same c.as_slice-recipes.result.now cert.undecided c.as_slice-recipes.ensures) c.in_default-put_list.ensures.goes in
    let T : List ℕ → Type 0 = λ t. GoesWrong name t [] old new in
    subst T (brackets F R L C) (on_wrong name F ((C ++ R) ++ L) [] still old mid new first (wrong_more name (C ++ R) L still mid new second))

pub returns : goal.returns
unfolding cert_text front_text
returns g c =
    let cert = c.args.cert.now in
    let old = g.H.Shelf.view c.args.shelf.now in
    let mid = g.H.Shelf.view c.put.new.shelf in
    let late = g.H.Shelf.view c.put_list.new.shelf in
    let new = g.H.Shelf.view c.put_tree.new.shelf in
    let still = c.put.new.waiting.items in
    let then = c.put_list.new.waiting.items in
    let name = c.args.name.now in
    let F = front_text cert.claim in
    let C = as_line (count_text undecided (length cert.undecided)) in
    let R = recipes_text cert.undecided in
    let L = lines_text cert.lines in
    let P : List ℕ → Type 0 = λ t. GoesOn name t [] old still mid in
    let Q : List ℕ → Type 0 = λ w. GoesOn name c.as_slice.result.now w old still mid in
    let first : GoesOn name F [] old still mid = subst P (c.as_slice.ensures.value ∙ c.front-front.ensures) (subst Q c.new-waiting.ensures c.in-Ok.ensures.goes) in
    let S : List ℕ → Type 0 = λ t. GoesOn name t still mid then late in
    let second : GoesOn name (C ++ R) still mid then late = subst S (list_same c.as_slice-recipes.result.now cert.undecided c.as_slice-recipes.ensures) c.in-Ok-put_list.ensures.goes in
    let U : List CertLine → Type 0 = λ xs. Goes name (lines_text xs) c.put_tree.result then late [] new in
    let third : Goes name L c.put_tree.result then late [] new = subst U c.as_slice-2.ensures c.put_tree.ensures in
    let T : List ℕ → Type 0 = λ t. Goes name t c.put_tree.result [] old [] new in
    subst T (brackets F R L C)
    (on_goes name F ((C ++ R) ++ L) [] still [] old mid new c.put_tree.result first (on_goes name (C ++ R) L still then [] mid late new c.put_tree.result second third))
