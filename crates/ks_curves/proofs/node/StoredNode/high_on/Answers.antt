use Rattle.std.proofs.Common.{◌∙◌, pos, ap, sym}
use Rattle.ks_curves.specs.BrokenLine.{between_at}
use Rattle.ks_curves.specs.StoredNode.{node_of}
use Rattle.ks_curves.proofs.Chains.{at_first, at_last}
use Rattle.ks_curves.proofs.node.StoredNode.high_on.Goals as goal

pub returns-then-x-self : goal.returns-then-x-self
returns-then-x-self c =
    let a = node_of c.args.self.now in
    let b = node_of c.args.later.now in
    ap pos c.from.ensures ∙ sym (ap (λ x. (between_at a b x).hi) c.if-x-self.true ∙ (λ i. (at_first a b c.requires.rising i).hi))

pub returns-then-x-later : goal.returns-then-x-later
returns-then-x-later c =
    let a = node_of c.args.self.now in
    let b = node_of c.args.later.now in
    ap pos c.from-then-x-later.ensures ∙ sym (ap (λ x. (between_at a b x).hi) c.if-x-later.true ∙ (λ i. (at_last a b c.requires.rising i).hi))
