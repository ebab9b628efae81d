use Rattle.std.proofs.Common.{◌≡◌, arith}
use Rattle.std.proofs.lemmas.Grind.{common_steps}
use Rattle.shelf_io.specs.Calls.{is_scheduled, one_more}
use Rattle.shelf_io.specs.contracts.mem_shelf.MemShelf.{the_view}
use Rattle.shelf_io.proofs.ReadSteps.{missing_fails, missing_after, scheduled_after, held_passes, held_after, held_size, held_bytes}
use Rattle.shelf_io.proofs.mem_shelf.MemShelf.read.Goals as goal

pub returns-in-None-clause-exact : goal.returns-in-None-clause-exact
returns-in-None-clause-exact c =
    rw (← c.self.view_is) (missing_fails (the_view c.self.inside) c.args.name.now c.deref-2.result.now c.deref-2.ensures.value c.in-None.ensures.index)

pub returns-in-None-clause-after : goal.returns-in-None-clause-after
returns-in-None-clause-after c =
    let shared : c.saturating_add-self-inside-in-None.result ≡ one_more c.self.inside.shared_reads = grind (arith, common_steps) in
    let calls : c.saturating_add-self-inside.result ≡ one_more c.self.inside.calls = grind (arith, common_steps) in
    rw (← c.self.view_is) (missing_after (the_view c.self.inside) c.args.name.now _ _ c.deref-2.result.now _ _ c.deref-2.ensures.value c.in-None.ensures.index shared calls)

pub returns-then-scheduled-clause-after : goal.returns-then-scheduled-clause-after
returns-then-scheduled-clause-after c =
    let calls : c.saturating_add-self-inside.result ≡ one_more c.self.inside.calls = grind (arith, common_steps) in
    let scheduled : c.is_scheduled-scheduled.result ≡ is_scheduled c.self.inside.failing.items c.self.inside.calls = grind (arith, common_steps) in
    rw (← c.self.view_is) (scheduled_after (the_view c.self.inside) c.args.name.now _ _ c.deref-2.result.now c.in-Some.at _ c.index_mut-file.result.now c.fail_read.new.self c.is_scheduled-scheduled.result c.deref-2.ensures.value c.in-Some.ensures.index c.index_mut-file.ensures.value scheduled c.if-scheduled.true c.fail_read.ensures calls)

pub returns-else-scheduled-clause-exact : goal.returns-else-scheduled-clause-exact
returns-else-scheduled-clause-exact c =
    let scheduled : c.is_scheduled-scheduled.result ≡ is_scheduled c.self.inside.failing.items c.self.inside.calls = grind (arith, common_steps) in
    rw (← c.self.view_is) (held_passes (the_view c.self.inside) c.args.name.now c.deref-2.result.now c.in-Some.at c.index_mut-file.result.now c.is_scheduled-scheduled.result c.deref-2.ensures.value c.in-Some.ensures.index c.index_mut-file.ensures.value scheduled c.if-scheduled.false)

pub returns-else-scheduled-clause-size : goal.returns-else-scheduled-clause-size
returns-else-scheduled-clause-size c = rw (← c.self.view_is) (held_size (the_view c.self.inside) c.args.name.now c.deref-2.result.now c.in-Some.at c.args.offset _ c.copy-count.result c.index_mut-file.result.now c.bytes.result.now c.deref-2.ensures.value c.in-Some.ensures.index c.index_mut-file.ensures.value c.bytes.ensures c.copy-count.ensures.size)

pub returns-else-scheduled-clause-bytes : goal.returns-else-scheduled-clause-bytes
returns-else-scheduled-clause-bytes c =
    rw (← c.self.view_is) (held_bytes (the_view c.self.inside) c.args.name.now c.deref-2.result.now c.in-Some.at c.args.offset c.copy-count.result c.index_mut-file.result.now c.bytes.result.now c.copy-count.new.into c.deref-2.ensures.value c.in-Some.ensures.index c.index_mut-file.ensures.value c.bytes.ensures c.self.invariant.3 c.copy-count.ensures.size c.copy-count.ensures.bytes)

pub returns-else-scheduled-clause-after : goal.returns-else-scheduled-clause-after
returns-else-scheduled-clause-after c =
    let calls : c.saturating_add-self-inside.result ≡ one_more c.self.inside.calls = grind (arith, common_steps) in
    let scheduled : c.is_scheduled-scheduled.result ≡ is_scheduled c.self.inside.failing.items c.self.inside.calls = grind (arith, common_steps) in
    rw (← c.self.view_is) (held_after (the_view c.self.inside) c.args.name.now _ _ c.deref-2.result.now c.in-Some.at c.copy-count.result _ c.index_mut-file.result.now c.hand_out.new.self c.is_scheduled-scheduled.result c.deref-2.ensures.value c.in-Some.ensures.index c.index_mut-file.ensures.value scheduled c.if-scheduled.false (held_size (the_view c.self.inside) c.args.name.now c.deref-2.result.now c.in-Some.at c.args.offset _ c.copy-count.result c.index_mut-file.result.now c.bytes.result.now c.deref-2.ensures.value c.in-Some.ensures.index c.index_mut-file.ensures.value c.bytes.ensures c.copy-count.ensures.size) c.hand_out.ensures calls)
