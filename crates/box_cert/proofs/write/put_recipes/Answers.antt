use Rattle.arrayvec.specs.ArrayVec.{ArrayVec}
use Rattle.std.proofs.Common.{ℕ, List, subst, ap, ◌∙◌, arith}
use Rattle.box_cert.specs.LineTexts.{as_line, numbers_text}
use Rattle.box_cert.specs.Writing.{GoesOn, GoesWrong}
use Rattle.box_cert.proofs.Pieces.{item_failed, item_next, items_whole, on_nothing}
use Rattle.box_cert.proofs.write.put_recipes.Goals as goal

pub loop-steps-init : goal.loop-steps-init
loop-steps-init g c = record { goes = on_nothing c.args.name.now c.args.waiting.now.items (g.H.Shelf.view c.args.shelf.now); held = c.requires.held }

pub returns-in_default-clause-goes : goal.returns-in_default-clause-goes
returns-in_default-clause-goes g c =
    let mid = g.H.Shelf.view c.loop-steps.shelf in
    let new = g.H.Shelf.view c.put.new.shelf in
    let P : List ℕ → Type 0 = λ piece. GoesWrong c.args.name.now piece c.loop-steps.waiting.items mid new in
    item_failed (λ (s : ArrayVec ℕ). as_line (numbers_text s.items)) c.args.recipes.now c.loop-steps.steps-index c.steps-item.result c.args.name.now c.args.waiting.now.items c.loop-steps.waiting.items
    (g.H.Shelf.view c.args.shelf.now) mid new c.loop-steps-test.true c.loop-steps.invariant.goes
    (subst P (c.as_slice.ensures.value ∙ c.ended_recipe.ensures ∙ ap (λ (s : ArrayVec ℕ). as_line (numbers_text s.items)) c.steps-item.is) c.in_default.ensures.goes)

pub loop-steps-preserved : goal.loop-steps-preserved
loop-steps-preserved g c =
    let mid = g.H.Shelf.view c.loop-steps.shelf in
    let new = g.H.Shelf.view c.put.new.shelf in
    let still = c.put.new.waiting.items in
    let P : List ℕ → Type 0 = λ piece. GoesOn c.args.name.now piece c.loop-steps.waiting.items mid still new in
    record {
      goes = item_next (λ (s : ArrayVec ℕ). as_line (numbers_text s.items)) c.args.recipes.now c.loop-steps.steps-index c.steps-item.result c.args.name.now c.args.waiting.now.items c.loop-steps.waiting.items
          (g.H.Shelf.view c.args.shelf.now) mid new c.loop-steps-test.true c.loop-steps.invariant.goes still
          (subst P (c.as_slice.ensures.value ∙ c.ended_recipe.ensures ∙ ap (λ (s : ArrayVec ℕ). as_line (numbers_text s.items)) c.steps-item.is) c.in-Ok.ensures.goes);
      held = c.in-Ok.ensures.held;
    }

pub returns-clause-goes : goal.returns-clause-goes
returns-clause-goes g c =
    items_whole (λ (s : ArrayVec ℕ). as_line (numbers_text s.items)) c.args.recipes.now c.loop-steps.steps-index c.args.name.now c.args.waiting.now.items c.loop-steps.waiting.items
    (g.H.Shelf.view c.args.shelf.now) (g.H.Shelf.view c.loop-steps.shelf) (omega arith) c.loop-steps.invariant.goes
