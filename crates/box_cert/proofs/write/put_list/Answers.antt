use Rattle.std.proofs.Common.{ℕ, List, ◌++◌, ◌∷◌, ◌∙◌, decimal, flat_map, length, subst}
use Rattle.arrayvec.specs.ArrayVec.{ArrayVec}
use Rattle.box_cert.specs.LineTexts.{as_line, numbers_text}
use Rattle.box_cert.specs.Writing.{GoesOn, GoesWrong}
use Rattle.box_cert.proofs.Pieces.{on_goes, wrong_more}
use Rattle.box_cert.proofs.write.put_list.Goals as goal

pub returns-in_default-clause-goes : goal.returns-in_default-clause-goes
returns-in_default-clause-goes g c =
    let old = g.H.Shelf.view c.args.shelf.now in
    let new = g.H.Shelf.view c.put.new.shelf in
    let count = as_line (c.args.word.now ++ (32 ∷ decimal (length c.args.recipes.now))) in
    let P : List ℕ → Type 0 = λ t. GoesWrong c.args.name.now t c.args.waiting.now.items old new in
    wrong_more c.args.name.now count (flat_map (λ (s : ArrayVec ℕ). as_line (numbers_text s.items)) c.args.recipes.now) c.args.waiting.now.items old new
    (subst P (c.as_slice.ensures.value ∙ c.ended_count-line.ensures) c.in_default.ensures.goes)

pub returns-clause-goes : goal.returns-clause-goes
returns-clause-goes g c =
    let old = g.H.Shelf.view c.args.shelf.now in
    let mid = g.H.Shelf.view c.put.new.shelf in
    let new = g.H.Shelf.view c.put_recipes.new.shelf in
    let still = c.put.new.waiting.items in
    let count = as_line (c.args.word.now ++ (32 ∷ decimal (length c.args.recipes.now))) in
    let P : List ℕ → Type 0 = λ t. GoesOn c.args.name.now t c.args.waiting.now.items old still mid in
    on_goes c.args.name.now count (flat_map (λ (s : ArrayVec ℕ). as_line (numbers_text s.items)) c.args.recipes.now) c.args.waiting.now.items still c.put_recipes.new.waiting.items old mid new
    c.put_recipes.result (subst P (c.as_slice.ensures.value ∙ c.ended_count-line.ensures) c.in-Ok.ensures.goes) c.put_recipes.ensures.goes
