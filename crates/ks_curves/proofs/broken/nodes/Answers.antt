use Rattle.std.proofs.Common.{◌≡◌, ◌-◌, ◌≤◌, ◌∙◌, List, [], length, drop, sym, ap, subst, arith}
use Rattle.ks_curves.specs.Calibration.{nodes_at}
use Rattle.ks_curves.specs.Dye.{Dyeing}
use Rattle.ks_curves.specs.Order.{put_by}
use Rattle.ks_curves.proofs.NodeFacts.{next_back, nodes_none, nodes_more}
use Rattle.ks_curves.proofs.Stored.{units_of}
use Rattle.std.proofs.lemmas.List.{drop_all}
use Rattle.ks_curves.proofs.broken.nodes.Goals as goal

pub loop-taken-init : goal.loop-taken-init
loop-taken-init g c =
    let ds = c.args.dyeings.now in
    let none : drop (length ds - 0) ds ≡ [] = drop_all (length ds - 0) ds (omega arith) in
    record {
      count = rw c.default-nodes.ensures (omega arith);
      so_far = c.default-nodes.ensures ∙ sym (nodes_none g.S.Scale.unit c.args.substrate.now c.args.wave (drop (length ds - 0) ds) (ap length none));
    }

pub loop-taken-preserved : goal.loop-taken-preserved
loop-taken-preserved g c =
    let ds = c.args.dyeings.now in
    let d = c.index-dyeings-dyeings.result in
    let k = c.loop-taken.taken in
    let n = g.S.Scale.unit in
    let back = next_back ds k d c.loop-taken-test.true c.index-dyeings-dyeings.is in
    let range = c.requires.dyeings (length ds - 1 - k) d (omega (arith, c.loop-taken-test.true)) in
    let some : 1 ≤ d.0 = subst (λ (x : Dyeing). 1 ≤ x.0) (sym c.index-dyeings-dyeings.is) range.units.0 in
    record {
      count = omega (arith, c.put.ensures.count, c.loop-taken.invariant.count);
      so_far =
          c.put.ensures.is ∙ (λ i. put_by units_of (c.node.ensures i) (c.loop-taken.invariant.so_far i))
          ∙ sym (nodes_more n c.args.substrate.now c.args.wave d (drop (length ds - k) ds) some)
          ∙ ap (λ (es : List Dyeing). nodes_at n c.args.substrate.now c.args.wave es) (sym back);
    }
