-- The bytes so far are a prefix of the file, and at most `limit + 1`. At most as many were handed
-- out, the count of failed reads is unchanged, and only reads of the name were made.
use Rattle.std.proofs.Common.{◌≡◌, ◌≤◌, vec_len, ◌+◌, ◌-◌}
use Rattle.shelf_io.specs.Changes.{HandsOut, OnlyReads}
use Rattle.shelf_io.specs.Reading.{IsKnownPrefix}
use Rattle.shelf_io.proofs.whole_file.take_file.Given as goal

abbrev pub invariant-loop-buffer : goal.invariant-loop-buffer
invariant-loop-buffer g l = record {
  prefix : IsKnownPrefix (g.H.Shelf.view l.fn.shelf).contents l.name l.bytes.items;
  most : vec_len l.bytes ≤ l.limit + 1;
  effect : OnlyReads (λ n. n ≡ l.name) (g.H.Shelf.view l.fn.shelf) (g.H.Shelf.view l.shelf);
  handed : HandsOut l.name (vec_len l.bytes) (g.H.Shelf.view l.fn.shelf) (g.H.Shelf.view l.shelf);
  stands : (g.H.Shelf.view l.shelf).read_faults l.name ≡ (g.H.Shelf.view l.fn.shelf).read_faults l.name;
}

abbrev pub decreases-loop-buffer : goal.decreases-loop-buffer
decreases-loop-buffer g l = l.limit + 1 - vec_len l.bytes
