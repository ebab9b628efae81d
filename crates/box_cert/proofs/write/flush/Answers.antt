use Rattle.std.proofs.Common.{ℕ, List, [], subst}
use Rattle.std.proofs.lemmas.Bool.{false≢true}
use Rattle.box_cert.specs.Writing.{GoesOn, GoesWrong}
use Rattle.box_cert.proofs.Pieces.{on_flushed, wrong_flush, held_more}
use Rattle.box_cert.proofs.write.flush.Goals as goal

pub returns-in_default-clause-goes : goal.returns-in_default-clause-goes
returns-in_default-clause-goes g c =
    let old = g.H.Shelf.view c.args.shelf.now in
    let new = g.H.Shelf.view c.append.new.self in
    let P : List ℕ → Type 0 = λ w. GoesWrong c.args.name.now [] w old new in
    let failed = c.in_default.ensures in
    subst P c.as_slice.ensures.value
    (wrong_flush c.args.name.now c.as_slice.result.now old new failed.contents failed.effect failed.counted (λ more h. false≢true (failed.promised more h)))

pub returns-clause-goes : goal.returns-clause-goes
returns-clause-goes g c =
    let old = g.H.Shelf.view c.args.shelf.now in
    let new = g.H.Shelf.view c.append.new.self in
    let P : List ℕ → Type 0 = λ w. GoesOn c.args.name.now [] w old [] new in
    let done = c.in-Ok.ensures in
    subst P c.as_slice.ensures.value (on_flushed c.args.name.now c.as_slice.result.now old new done.contents done.effect done.counted)

pub returns-clause-held : goal.returns-clause-held
returns-clause-held g c =
    held_more c.args.name.now c.as_slice.result.now (g.H.Shelf.view c.args.shelf.now) (g.H.Shelf.view c.append.new.self) c.requires c.in-Ok.ensures.contents
