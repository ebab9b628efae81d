use Rattle.std.proofs.Common.{◌≡◌, ◌≤◌, ◌+◌, sym, ◌∙◌, ◌==◌, ◌-◌, ◌||◌, ◌++◌, ◌∷◌, [], true, false, arith, vec_len}
use Rattle.std.proofs.lemmas.Grind.{common_steps}
use Rattle.shelf_io.specs.Calls.{is_scheduled, one_more}
use Rattle.shelf_io.specs.contracts.mem_shelf.MemShelf.{the_view}
use Rattle.shelf_io.proofs.WriteSteps.{scheduled_create, held_create_passes, held_create, new_create_fails, new_create_failed, new_create, room_pushed, slots_popped, new_fits, or_true, or_rest, or_neither}
use Rattle.shelf_io.proofs.mem_shelf.MemShelf.make.Goals as goal
use Rattle.shelf_io.proofs.mem_shelf.MemShelf.make.Goals.{then-scheduled-2-via-then-scheduled-2, then-scheduled-2-via-else-scheduled-2+then-is_empty}

pub returns-then-scheduled-clause-after : goal.returns-then-scheduled-clause-after
returns-then-scheduled-clause-after c =
    let calls : c.saturating_add-self-inside.result ≡ one_more c.self.inside.calls = grind (arith, common_steps) in
    let scheduled : c.is_scheduled-scheduled.result ≡ is_scheduled c.self.inside.failing.items c.self.inside.calls = grind (arith, common_steps) in
    rw (← c.self.view_is) (scheduled_create (the_view c.self.inside) c.args.name.now c.deref-2.result.now c.in-Some.at _ c.index_mut-file.result.now c.fail_write.new.self c.is_scheduled-scheduled.result c.deref-2.ensures.value c.in-Some.ensures.index c.index_mut-file.ensures.value scheduled c.if-scheduled.true c.fail_write.ensures calls)

pub returns-then-scheduled-2-clause-exact : goal.returns-then-scheduled-2-clause-exact
returns-then-scheduled-2-clause-exact c =
    let scheduled : c.is_scheduled-scheduled.result ≡ is_scheduled c.self.inside.failing.items c.self.inside.calls = grind (arith, common_steps) in
    let fails : true ≡ (is_scheduled c.self.inside.failing.items c.self.inside.calls || vec_len c.self.inside.spare == 0) =
    elim c.then-scheduled-2.branch [
      | then-scheduled-2-via-then-scheduled-2 w ↦ or_true _ _ (sym w.if-scheduled-2.true ∙ scheduled)
      | then-scheduled-2-via-else-scheduled-2+then-is_empty w ↦ or_rest _ _ (sym w.if-is_empty.true ∙ w.is_empty.ensures)
    ] in
    rw (← c.self.view_is) (new_create_fails (the_view c.self.inside) c.args.name.now c.deref-2.result.now c.deref-2.ensures.value c.in-None.ensures.index fails)

pub returns-then-scheduled-2-clause-after : goal.returns-then-scheduled-2-clause-after
returns-then-scheduled-2-clause-after c =
    let calls : c.saturating_add-self-inside.result ≡ one_more c.self.inside.calls = grind (arith, common_steps) in
    let shared : c.saturating_add-self-inside-then-scheduled-2.result ≡ one_more c.self.inside.shared_writes = grind (arith, common_steps) in
    let scheduled : c.is_scheduled-scheduled.result ≡ is_scheduled c.self.inside.failing.items c.self.inside.calls = grind (arith, common_steps) in
    let fails : true ≡ (is_scheduled c.self.inside.failing.items c.self.inside.calls || vec_len c.self.inside.spare == 0) =
    elim c.then-scheduled-2.branch [
      | then-scheduled-2-via-then-scheduled-2 w ↦ or_true _ _ (sym w.if-scheduled-2.true ∙ scheduled)
      | then-scheduled-2-via-else-scheduled-2+then-is_empty w ↦ or_rest _ _ (sym w.if-is_empty.true ∙ w.is_empty.ensures)
    ] in
    rw (← c.self.view_is) (new_create_failed (the_view c.self.inside) c.args.name.now c.deref-2.result.now _ _ c.deref-2.ensures.value c.in-None.ensures.index fails shared calls)

pub invariant_of-self-in-None : goal.invariant_of-self-in-None
invariant_of-self-in-None c =
    let pushed : c.push.new.self.items ≡ c.self.inside.files.items ++ c.hold-file.result ∷ [] = grind (arith, common_steps) in
    let fewer : vec_len c.pop.new.self + 1 ≡ vec_len c.self.inside.spare = rw c.unwrap-slot.ensures at c.pop.ensures.cases in
    let length_pushed : vec_len c.push.new.self ≤ vec_len c.self.inside.files + 1 = c.push.ensures.upper_bound in (
      room_pushed c.self.inside.room c.self.inside.files.items c.push.new.self.items c.hold-file.result c.self.invariant.0 (new_fits _ _ _ _ c.hold-file.result c.hold-file.ensures) pushed,
      slots_popped c.self.inside.room _ c.self.inside.spare.items c.pop.new.self.items c.self.invariant.1 c.pop.ensures.rest,
      omega (arith, length_pushed, fewer),
      c.self.invariant.3,
    )

pub returns-else-scheduled-clause-exact : goal.returns-else-scheduled-clause-exact
returns-else-scheduled-clause-exact c =
    let scheduled : c.is_scheduled-scheduled.result ≡ is_scheduled c.self.inside.failing.items c.self.inside.calls = grind (arith, common_steps) in
    rw (← c.self.view_is) (held_create_passes (the_view c.self.inside) c.args.name.now c.deref-2.result.now c.in-Some.at c.index_mut-file.result.now c.is_scheduled-scheduled.result c.deref-2.ensures.value c.in-Some.ensures.index c.index_mut-file.ensures.value scheduled c.if-scheduled.false)

pub returns-else-scheduled-clause-after : goal.returns-else-scheduled-clause-after
returns-else-scheduled-clause-after c =
    let calls : c.saturating_add-self-inside.result ≡ one_more c.self.inside.calls = grind (arith, common_steps) in
    let scheduled : c.is_scheduled-scheduled.result ≡ is_scheduled c.self.inside.failing.items c.self.inside.calls = grind (arith, common_steps) in
    rw (← c.self.view_is) (held_create (the_view c.self.inside) c.args.name.now c.deref-2.result.now c.in-Some.at _ c.index_mut-file.result.now c.clear.new.self c.is_scheduled-scheduled.result c.deref-2.ensures.value c.in-Some.ensures.index c.index_mut-file.ensures.value scheduled c.if-scheduled.false c.clear.ensures calls)

pub returns-else-is_empty-clause-after : goal.returns-else-is_empty-clause-after
returns-else-is_empty-clause-after c =
    let calls : c.saturating_add-self-inside.result ≡ one_more c.self.inside.calls = grind (arith, common_steps) in
    let pushed : c.push.new.self.items ≡ c.self.inside.files.items ++ c.hold-file.result ∷ [] = grind (arith, common_steps) in
    let scheduled : c.is_scheduled-scheduled.result ≡ is_scheduled c.self.inside.failing.items c.self.inside.calls = grind (arith, common_steps) in
    let passes : false ≡ (is_scheduled c.self.inside.failing.items c.self.inside.calls || vec_len c.self.inside.spare == 0) =
    or_neither _ _ (sym c.if-scheduled-2.false ∙ scheduled) (sym c.if-is_empty.false ∙ c.is_empty.ensures) in
    let fewer : vec_len c.pop.new.self + 1 ≡ vec_len c.self.inside.spare = rw c.unwrap-slot.ensures at c.pop.ensures.cases in
    let slots : vec_len c.pop.new.self ≡ vec_len c.self.inside.spare - 1 = omega arith in
    rw (← c.self.view_is) (new_create (the_view c.self.inside) c.args.name.now c.deref-2.result.now c.push.new.self.items c.hold-file.result _ _ c.deref-2.ensures.value c.in-None.ensures.index passes pushed c.hold-file.ensures slots calls)
