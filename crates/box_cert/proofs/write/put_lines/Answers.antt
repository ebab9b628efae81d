use Rattle.std.proofs.Common.{ℕ, List, subst, ◌∙◌, arith}
use Rattle.box_cert.specs.LineTexts.{as_line, line_text}
use Rattle.box_cert.specs.Writing.{GoesOn, GoesWrong}
use Rattle.box_cert.proofs.Pieces.{item_failed, item_next, items_whole, on_nothing}
use Rattle.box_cert.proofs.write.put_lines.Goals as goal

pub loop-line-init : goal.loop-line-init
loop-line-init g c = record { goes = on_nothing c.args.name.now c.args.waiting.now.items (g.H.Shelf.view c.args.shelf.now); held = c.requires.held }

pub returns-in_default-clause-goes : goal.returns-in_default-clause-goes
returns-in_default-clause-goes g c =
    let mid = g.H.Shelf.view c.loop-line.shelf in
    let new = g.H.Shelf.view c.put.new.shelf in
    let P : List ℕ → Type 0 = λ piece. GoesWrong c.args.name.now piece c.loop-line.waiting.items mid new in
    item_failed (λ line. as_line (line_text line)) c.args.lines.now c.loop-line.line-index _ c.args.name.now c.args.waiting.now.items c.loop-line.waiting.items
    (g.H.Shelf.view c.args.shelf.now) mid new c.loop-line-test.true c.loop-line.invariant.goes
    (subst P (c.as_slice.ensures.value ∙ c.ended_line.ensures) c.in_default.ensures.goes)

pub loop-line-preserved : goal.loop-line-preserved
loop-line-preserved g c =
    let mid = g.H.Shelf.view c.loop-line.shelf in
    let new = g.H.Shelf.view c.put.new.shelf in
    let still = c.put.new.waiting.items in
    let P : List ℕ → Type 0 = λ piece. GoesOn c.args.name.now piece c.loop-line.waiting.items mid still new in
    record {
      goes = item_next (λ line. as_line (line_text line)) c.args.lines.now c.loop-line.line-index _ c.args.name.now c.args.waiting.now.items c.loop-line.waiting.items
          (g.H.Shelf.view c.args.shelf.now) mid new c.loop-line-test.true c.loop-line.invariant.goes still
          (subst P (c.as_slice.ensures.value ∙ c.ended_line.ensures) c.in-Ok.ensures.goes);
      held = c.in-Ok.ensures.held;
    }

pub returns-clause-goes : goal.returns-clause-goes
returns-clause-goes g c =
    items_whole (λ line. as_line (line_text line)) c.args.lines.now c.loop-line.line-index c.args.name.now c.args.waiting.now.items c.loop-line.waiting.items
    (g.H.Shelf.view c.args.shelf.now) (g.H.Shelf.view c.loop-line.shelf) (omega arith) c.loop-line.invariant.goes
