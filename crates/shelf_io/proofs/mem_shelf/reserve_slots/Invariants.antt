use Rattle.std.proofs.Common.{◌≡◌, vec_len}
use Rattle.shelf_io.specs.Held.{SlotsHaveRoom}
use Rattle.shelf_io.proofs.mem_shelf.reserve_slots.Given as goal

abbrev pub invariant-loop : goal.invariant-loop
invariant-loop l = record {
  count : vec_len l.spare ≡ l.counter;
  each : SlotsHaveRoom l.room l.spare.items;
}
