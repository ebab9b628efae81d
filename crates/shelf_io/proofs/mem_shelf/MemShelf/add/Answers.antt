use Rattle.std.proofs.Common.{◌≡◌, IsSome, option_map, sym, ◌∙◌, subst, refl, arith}
use Rattle.std.proofs.lemmas.Bool.Decides.{nat_tests}
use Rattle.std.proofs.lemmas.Grind.{common_steps}
use Rattle.shelf_io.specs.Calls.{is_scheduled, one_more}
use Rattle.shelf_io.specs.Held.{held_under}
use Rattle.shelf_io.specs.MemShelf.{ShelfState, append_fails, append_size}
use Rattle.shelf_io.specs.contracts.mem_shelf.MemShelf.{the_view}
use Rattle.shelf_io.proofs.WriteSteps.{index_exists, append_there}
use Rattle.shelf_io.proofs.mem_shelf.MemShelf.add.Goals as goal

pub unwrap-at-requires : goal.unwrap-at-requires
unwrap-at-requires c =
    let P : ShelfState → Type 0 = λ s. IsSome (option_map (λ f. f.bytes) (held_under c.args.name.now s.files)) in
    index_exists c.args.name.now c.self.inside.files.items c.deref-2.result.now c.index_of.result c.deref-2.ensures.value c.index_of.ensures.index
    (subst P (sym c.self.view_is) c.requires)

pub returns-clause-after : goal.returns-clause-after
returns-clause-after c =
    let scheduled : c.is_scheduled-scheduled.result ≡ is_scheduled c.self.inside.failing.items c.self.inside.calls = grind (arith, common_steps) in
    let calls : c.saturating_add-self-inside.result ≡ one_more c.self.inside.calls = grind (arith, common_steps) in
    let refused : c.if-scheduled.refused ≡ append_fails (the_view c.self.inside) c.args.piece.now = grind (arith, nat_tests) in
    let size : c.fitting-size.result ≡ append_size (the_view c.self.inside) c.args.piece.now = grind (arith, nat_tests) in
    rw (← c.self.view_is) (append_there (the_view c.self.inside) c.args.name.now c.args.piece.now c.deref-2.result.now c.unwrap-at.result c.fitting-size.result _ _ c.index_mut-file.result.now c.append.new.self c.if-scheduled.refused
    c.deref-2.ensures.value (sym c.unwrap-at.ensures ∙ c.index_of.ensures.index) c.index_mut-file.ensures.value refused size c.append.ensures refl calls)
