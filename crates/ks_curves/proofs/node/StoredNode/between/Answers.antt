use Rattle.std.proofs.Common.{◌≡◌, ◌∙◌, sym, ap, arith}
use Rattle.std.proofs.lemmas.Int.{ints}
use Rattle.interval_specs.proofs.Held.{same_ends}
use Rattle.ks_curves.specs.BrokenLine.{between_at}
use Rattle.ks_curves.specs.StoredNode.{node_of}
use Rattle.ks_curves.specs.Walk.{piece_over}
use Rattle.ks_curves.proofs.Pieces.{low_rising, low_falling, high_rising, high_falling}
use Rattle.ks_curves.proofs.node.StoredNode.between.Goals as goal
use Rattle.ks_curves.proofs.node.StoredNode.between.Goals.{then-self-later, else-self-later, then-self-later-2, else-self-later-2}

pub returns : goal.returns
returns c =
    let a = node_of c.args.self.now in
    let b = node_of c.args.later.now in
    let r = c.requires in
    let low : (between_at a b c.if-self-later.least).lo ≡ (piece_over a b c.args.x0 c.args.x1).lo =
    elim c.if-self-later.branch [
      | then-self-later w ↦ ap (λ x. (between_at a b x).lo) w.least-is ∙ sym (low_rising a b c.args.x0 c.args.x1 r.rising r.from r.ordered r.to (let h = w.if-self-later in omega (arith, ints)))
      | else-self-later w ↦ ap (λ x. (between_at a b x).lo) w.least-is ∙ sym (low_falling a b c.args.x0 c.args.x1 r.rising r.from r.ordered r.to (let h = w.if-self-later in omega (arith, ints)))
    ] in
    let high : (between_at a b c.if-self-later-2.greatest).hi ≡ (piece_over a b c.args.x0 c.args.x1).hi =
    elim c.if-self-later-2.branch [
      | then-self-later-2 w ↦ ap (λ x. (between_at a b x).hi) w.greatest-is ∙ sym (high_rising a b c.args.x0 c.args.x1 r.rising r.from r.ordered r.to (let h = w.if-self-later-2 in omega (arith, ints)))
      | else-self-later-2 w ↦ ap (λ x. (between_at a b x).hi) w.greatest-is ∙ sym (high_falling a b c.args.x0 c.args.x1 r.rising r.from r.ordered r.to (let h = w.if-self-later-2 in omega (arith, ints)))
    ] in
    same_ends _ _ (piece_over a b c.args.x0 c.args.x1) (c.low_on.ensures ∙ low) (c.high_on.ensures ∙ high)
