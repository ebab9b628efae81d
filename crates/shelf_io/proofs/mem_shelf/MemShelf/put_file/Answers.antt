use Rattle.std.proofs.Common.{◌≡◌, ◌++◌, ◌∷◌, [], ap, ◌∙◌, arith}
use Rattle.std.proofs.lemmas.Grind.{common_steps}
use Rattle.std.proofs.lemmas.Result.{on_ok_weaker}
use Rattle.shelf_io.specs.contracts.mem_shelf.MemShelf.{the_view}
use Rattle.shelf_io.specs.MemShelf.{shelf_contents}
use Rattle.shelf_io.proofs.Shelves.{contents_with, with_held, with_new}
use Rattle.shelf_io.proofs.mem_shelf.MemShelf.put_file.Goals as goal

pub returns-in-Some-clause-ok : goal.returns-in-Some-clause-ok
returns-in-Some-clause-ok c =
    rw (← c.self.view_is) (on_ok_weaker c.put.result (λ w. with_held _ _ _ c.in-Some.at c.index_mut-file.result.now c.put.new.self c.deref.result.now c.deref.ensures.value c.in-Some.ensures.index c.index_mut-file.ensures.value w) c.put.ensures.ok)

pub returns-in-Some-clause-contents : goal.returns-in-Some-clause-contents
returns-in-Some-clause-contents c =
    rw (← c.self.view_is) (on_ok_weaker c.put.result (λ w. ap shelf_contents (with_held c.args.name.now c.args.bytes.now (the_view c.self.inside) c.in-Some.at c.index_mut-file.result.now c.put.new.self c.deref.result.now c.deref.ensures.value c.in-Some.ensures.index c.index_mut-file.ensures.value w) ∙ contents_with c.args.name.now c.args.bytes.now (the_view c.self.inside)) c.put.ensures.ok)

pub returns-in_ok-reserve-in-None-clause-ok : goal.returns-in_ok-reserve-in-None-clause-ok
returns-in_ok-reserve-in-None-clause-ok c =
    let pushed : c.push.new.self.items ≡ c.self.inside.files.items ++ c.in_ok-file-in-None.file ∷ [] = grind (arith, common_steps) in
    rw (← c.self.view_is) (with_new _ _ _ c.deref.result.now c.push.new.self.items c.in_ok-file-in-None.file c.deref.ensures.value c.in-None.ensures.index c.in_ok-file-in-None.ensures pushed)

pub returns-in_ok-reserve-in-None-clause-contents :
    goal.returns-in_ok-reserve-in-None-clause-contents
returns-in_ok-reserve-in-None-clause-contents c =
    let pushed : c.push.new.self.items ≡ c.self.inside.files.items ++ c.in_ok-file-in-None.file ∷ [] = grind (arith, common_steps) in
    rw (← c.self.view_is) (ap shelf_contents (with_new c.args.name.now c.args.bytes.now (the_view c.self.inside) c.deref.result.now c.push.new.self.items c.in_ok-file-in-None.file c.deref.ensures.value c.in-None.ensures.index c.in_ok-file-in-None.ensures pushed) ∙ contents_with c.args.name.now c.args.bytes.now (the_view c.self.inside))
