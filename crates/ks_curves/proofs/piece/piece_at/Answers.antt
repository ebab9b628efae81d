use Rattle.std.proofs.Common.{arith}
use Rattle.ks_curves.proofs.PieceFacts.{IsStart, lies_between, lies_past, start_first, start_later}
use Rattle.ks_curves.proofs.piece.piece_at.Goals as goal
use Rattle.ks_curves.proofs.piece.piece_at.Goals.{then-end-eq0, else-end-eq0+in_ok-before}

pub returns-then-x-node : goal.returns-then-x-node
returns-then-x-node c =
    let start : IsStart c.args.nodes.now c.args.end c.if-end-eq0.before =
    elim c.if-end-eq0.branch [
      | then-end-eq0 w ↦ start_first c.args.nodes.now c.args.end c.if-end-eq0.before w.default-before.result w.if-end-eq0.true w.before-is w.default-before.ensures
      | else-end-eq0+in_ok-before w ↦ start_later c.args.nodes.now c.args.end c.if-end-eq0.before w.in_ok-before.field-0.now _ (omega (arith, w.if-end-eq0.false)) w.before-is w.in_ok-before.ensures.lookup.0 w.in_ok-before.ensures.lookup.1
    ] in
    lies_between c.args.nodes.now c.args.end c.args.x c.if-end-eq0.before c.requires start c.if-x-before.false c.in-Some.node.now _ c.in-Some.ensures.lookup.0 c.in-Some.ensures.lookup.1 c.if-x-node.true

pub returns-in-None : goal.returns-in-None
returns-in-None c =
    let start : IsStart c.args.nodes.now c.args.end c.if-end-eq0.before =
    elim c.if-end-eq0.branch [
      | then-end-eq0 w ↦ start_first c.args.nodes.now c.args.end c.if-end-eq0.before w.default-before.result w.if-end-eq0.true w.before-is w.default-before.ensures
      | else-end-eq0+in_ok-before w ↦ start_later c.args.nodes.now c.args.end c.if-end-eq0.before w.in_ok-before.field-0.now _ (omega (arith, w.if-end-eq0.false)) w.before-is w.in_ok-before.ensures.lookup.0 w.in_ok-before.ensures.lookup.1
    ] in
    lies_past c.args.nodes.now c.args.end c.args.x c.if-end-eq0.before c.requires start c.if-x-before.false c.in-None.ensures.lookup.0
