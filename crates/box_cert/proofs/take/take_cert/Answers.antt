use Rattle.std.proofs.Common.{◌≡◌, ◌<◌, ◌∙◌, ◌++◌, ℕ, List, length, take, drop, refl, sym, subst, arith, length-append}
use Rattle.std.specs.Prelude.{Result}
use Rattle.std.proofs.lemmas.Grind.{common_steps}
use Rattle.shelf_io.proofs.Keeping.{hands_then, reads_then}
use Rattle.shelf_io.proofs.Prefixes.{step_prefix}
use Rattle.box_core.specs.declared.cert.Cert.{Cert}
use Rattle.box_cert.specs.declared.fault.TakeCertError.{TakeCertError}
use Rattle.box_cert.specs.Taking.{TakesCert}
use Rattle.box_cert.proofs.Coming.{at_end, text_taken}
use Rattle.box_cert.proofs.Fed.{piece_read, read_ends}
use Rattle.box_cert.proofs.take.take_cert.Goals as goal
use Rattle.box_cert.proofs.take.take_cert.Goals.{then-left, else-left}

pub returns-then-count-eq0-clause-takes : goal.returns-then-count-eq0-clause-takes
returns-then-count-eq0-clause-takes g c =
    let so_far = c.loop-size.invariant in
    let start = (g.H.Shelf.view c.args.shelf.now).contents in
    let between = (g.H.Shelf.view c.loop-size.shelf).contents in
    let name = c.args.name.now in
    let asked : length c.read_at.new.into ≡ c.if-left.size = grind (arith, common_steps) in
    let some : 0 < c.if-left.size =
    elim c.if-left.branch [
      | then-left w ↦ omega (arith, w.size-is)
      | else-left w ↦ omega (arith, w.size-is)
    ] in
    let file =
    at_end start between name so_far.bytes c.read_at.new.into c.loop-size.offset c.in-Ok-read_at.count so_far.effect.contents so_far.many c.if-count-eq0.true (omega (arith, asked, some)) so_far.prefix c.in-Ok-read_at.ensures.bytes in
    let gives = read_ends c.args.dims so_far.bytes c.loop-size.feed c.finish.result so_far.read c.finish.ensures.exact c.finish.ensures.stays in
    let P : Result Cert TakeCertError → Type 0 = TakesCert start name c.args.dims in
    subst P (sym c.taken.ensures) (text_taken start name so_far.bytes c.args.dims c.finish.result file (omega (arith, so_far.many, so_far.short)) gives)

pub loop-size-preserved : goal.loop-size-preserved
loop-size-preserved g c =
    let so_far = c.loop-size.invariant in
    let read = c.in-Ok-read_at.ensures in
    let count = c.in-Ok-read_at.count in
    let start = g.H.Shelf.view c.args.shelf.now in
    let before = g.H.Shelf.view c.loop-size.shelf in
    let after = g.H.Shelf.view c.read_at.new.self in
    let name = c.args.name.now in
    let piece : List ℕ = take count (c.read_at.new.into ++ drop c.if-left.size c.loop-size.buffer) in
    let size : length piece ≡ count = grind (arith, common_steps) in
    let feeds = c.feed-told.ensures.feeds in
    record {
      bytes = so_far.bytes ++ piece;
      prefix = step_prefix start.contents before.contents name so_far.bytes c.read_at.new.into (drop c.if-left.size c.loop-size.buffer) (so_far.bytes ++ piece) c.loop-size.offset count so_far.effect.contents (sym so_far.many) read.most refl so_far.prefix read.bytes;
      many = length-append so_far.bytes piece ∙ omega (arith, so_far.many, size);
      short = c.if-offset-gt-CERT_LIMIT.false;
      read = piece_read c.args.dims so_far.bytes piece c.loop-size.feed c.feed-told.new.self so_far.read feeds;
      count = feeds.dims ∙ so_far.count;
      fed = feeds.taken ∙ omega (arith, so_far.fed, size);
      effect = reads_then (λ n. n ≡ name) start before after so_far.effect read.effect;
      handed = hands_then name c.loop-size.offset count start before after so_far.handed read.handed;
      stands = read.counted ∙ so_far.stands;
    }
