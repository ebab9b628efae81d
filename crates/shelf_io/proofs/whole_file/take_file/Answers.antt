use Rattle.std.proofs.Common.{◌≡◌, ◌+◌, ◌-◌, ◌≤◌, ◌∙◌, ℕ, length, vec_len, take, drop, ◌++◌, arith}
use Rattle.std.proofs.lemmas.Grind.{common_steps}
use Rattle.shelf_io.proofs.Prefixes.{step_prefix}
use Rattle.shelf_io.proofs.Keeping.{hands_most, hands_then, reads_then}
use Rattle.shelf_io.proofs.whole_file.take_file.Goals as goal
use Rattle.shelf_io.proofs.whole_file.take_file.Goals.{then-left, else-left}

-- after a read of at most one byte more than the limit leaves, at most `limit + 1` bytes are there
short : (limit read count new : ℕ) → read ≤ limit → count ≤ limit - read + 1 → new ≡ read + count → new ≤ limit + 1
short limit read count new l h e = omega (arith, l, h, e)

pub loop-buffer-preserved : goal.loop-buffer-preserved
loop-buffer-preserved g c =
    let grown : c.extend_from_slice.new.self.items ≡ c.loop-buffer.bytes.items ++ take c.in-Ok.count (c.read_at.new.into ++ drop c.if-left.size c.loop-buffer.buffer) = grind (arith, common_steps) in
    let size : vec_len c.extend_from_slice.new.self ≡ vec_len c.loop-buffer.bytes + c.in-Ok.count = grind (arith, common_steps) in
    let asked : length c.read_at.new.into ≡ c.if-left.size = grind (arith, common_steps) in
    let few : c.if-left.size ≤ c.args.limit - vec_len c.loop-buffer.bytes + 1 =
    elim c.if-left.branch [
      | then-left w ↦ grind (arith, common_steps, w.size-is, w.if-left.true)
      | else-left w ↦ grind (arith, common_steps, w.size-is, w.if-left.false)
    ] in
    let most = c.in-Ok.ensures.most in
    let start = g.H.Shelf.view c.args.shelf.now in
    let before = g.H.Shelf.view c.loop-buffer.shelf in
    let after = g.H.Shelf.view c.read_at.new.self in
    record {
      prefix =
          step_prefix _ _ _ _ _ (drop c.if-left.size c.loop-buffer.buffer) _ _ _ c.loop-buffer.invariant.effect.contents (grind (arith, common_steps)) c.in-Ok.ensures.most grown c.loop-buffer.invariant.prefix c.in-Ok.ensures.bytes;
      most = short c.args.limit (vec_len c.loop-buffer.bytes) c.in-Ok.count (vec_len c.extend_from_slice.new.self) (grind (arith, common_steps)) (omega (arith, few, asked, most)) size;
      effect = reads_then _ start before after c.loop-buffer.invariant.effect c.in-Ok.ensures.effect;
      handed = hands_most c.args.name.now (vec_len c.loop-buffer.bytes + c.in-Ok.count) (vec_len c.extend_from_slice.new.self) start after (omega (arith, size)) (hands_then c.args.name.now (vec_len c.loop-buffer.bytes) c.in-Ok.count start before after c.loop-buffer.invariant.handed c.in-Ok.ensures.handed);
      stands = c.in-Ok.ensures.counted ∙ c.loop-buffer.invariant.stands;
    }
