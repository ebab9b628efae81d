use Rattle.std.proofs.Common.{◌≡◌, ◌+◌, ◌<◌, ◌∷◌, ℕ, List, length, Some, drop, get_or, map, sym, ap, ◌∙◌, arith}
use Rattle.std.specs.Prelude.{option_map}
use Rattle.spectral_tables.specs.Spectrum.{ends_of}
use Rattle.ks_curves.specs.declared.node.StoredNode.{StoredNode}
use Rattle.ks_curves.specs.BrokenLine.{Node}
use Rattle.ks_curves.specs.StoredNode.{node_of, past_over, RiseFrom}
use Rattle.ks_curves.specs.Walk.{joined_ends, over_from, piece_over}
use Rattle.ks_curves.proofs.Stored.{next_node, no_node, rise_next}
use Rattle.ks_curves.proofs.Walks.{beyond, last_piece, whole_piece}
use Rattle.ks_curves.proofs.nodes.value_over.Goals as goal
use Rattle.ks_curves.proofs.nodes.value_over.Goals.{then-x0-node+else-x1-node, else-x0-node}

rises : (nodes : List StoredNode) (before : StoredNode) (i : ℕ) (d : StoredNode) → i < length nodes → RiseFrom before.units (drop i (map node_of nodes))
    → (before.units < (get_or nodes i d).units) × RiseFrom (get_or nodes i d).units (drop (i + 1) (map node_of nodes))
rises nodes before i d lt rise = rise_next before.units (node_of (get_or nodes i d)) _ _ (next_node nodes i d lt) rise

pub between-requires-clause-rising : goal.between-requires-clause-rising
between-requires-clause-rising c = (rises c.args.nodes.now c.loop-i.before c.loop-i.i _ c.loop-i-test.true c.loop-i.invariant.rise).0

pub returns-then-x1-node : goal.returns-then-x1-node
returns-then-x1-node c =
    let a = node_of c.loop-i.before in
    let b = node_of (get_or c.args.nodes.now c.loop-i.i (record { units = 0; low = 0; high = 0 })) in
    let before = option_map ends_of c.loop-i.ends in
    let rest = drop (c.loop-i.i + 1) (map node_of c.args.nodes.now) in
    let next = next_node c.args.nodes.now c.loop-i.i (record { units = 0; low = 0; high = 0 }) c.loop-i-test.true in
    c.joined.ensures ∙ ap (joined_ends before) (c.between.ensures ∙ ap (λ s. piece_over a b s c.args.x1) c.max-start.ensures)
    ∙ sym (last_piece before a b rest c.args.x0 c.args.x1 c.if-x0-node.true c.if-x1-node.true)
    ∙ ap (λ (xs : List Node). over_from before a xs c.args.x0 c.args.x1) (sym next) ∙ c.loop-i.invariant.walk

pub between-requires-then-x0-node-clause-rising : goal.between-requires-then-x0-node-clause-rising
between-requires-then-x0-node-clause-rising c = (rises c.args.nodes.now c.loop-i.before c.loop-i.i _ c.loop-i-test.true c.loop-i.invariant.rise).0

pub between-requires-then-x0-node-clause-ordered : goal.between-requires-then-x0-node-clause-ordered
between-requires-then-x0-node-clause-ordered c =
    let rise = (rises c.args.nodes.now c.loop-i.before c.loop-i.i (record { units = 0; low = 0; high = 0 }) c.loop-i-test.true c.loop-i.invariant.rise).0 in
    omega (arith, c.max-start.ensures, c.if-x0-node.true, rise)

pub loop-i-preserved : goal.loop-i-preserved
loop-i-preserved c =
    let a = node_of c.loop-i.before in
    let b = node_of (get_or c.args.nodes.now c.loop-i.i (record { units = 0; low = 0; high = 0 })) in
    let before = option_map ends_of c.loop-i.ends in
    let rest = drop (c.loop-i.i + 1) (map node_of c.args.nodes.now) in
    let next = next_node c.args.nodes.now c.loop-i.i (record { units = 0; low = 0; high = 0 }) c.loop-i-test.true in
    let rise = rises c.args.nodes.now c.loop-i.before c.loop-i.i (record { units = 0; low = 0; high = 0 }) c.loop-i-test.true c.loop-i.invariant.rise in
    let so_far : over_from before a (b ∷ rest) c.args.x0 c.args.x1 ≡ _ = ap (λ (xs : List Node). over_from before a xs c.args.x0 c.args.x1) (sym next) ∙ c.loop-i.invariant.walk in
    record {
      walk = elim c.if-x0-node.branch [
        | then-x0-node+else-x1-node w ↦
            ap (λ e. over_from (option_map ends_of e) b rest c.args.x0 c.args.x1) w.ends-is
            ∙ ap (λ e. over_from (Some e) b rest c.args.x0 c.args.x1) (w.joined-then-x0-node.ensures ∙ ap (joined_ends before) (w.between-then-x0-node.ensures ∙ ap (λ s. piece_over a b s b.units) w.max-start.ensures))
            ∙ sym (whole_piece before a b rest c.args.x0 c.args.x1 w.if-x0-node.true (omega (arith, w.if-x1-node.false))) ∙ so_far
        | else-x0-node w ↦
            ap (λ e. over_from (option_map ends_of e) b rest c.args.x0 c.args.x1) w.ends-is ∙ sym (beyond before a b rest c.args.x0 c.args.x1 (omega (arith, w.if-x0-node))) ∙ so_far
      ];
      rise = rise.1;
      reach = elim c.if-x0-node.branch [
        | then-x0-node+else-x1-node w ↦ omega (arith, w.if-x1-node.false)
        | else-x0-node w ↦ omega (arith, w.if-x0-node.false, c.requires.ordered)
      ];
      some = λ _. omega (arith, rise.0);
    }

pub returns : goal.returns
unfolding over_from
returns c =
    let a = node_of c.loop-i.before in
    let before = option_map ends_of c.loop-i.ends in
    let none = no_node c.args.nodes.now c.loop-i.i (omega (arith, c.loop-i-test.false)) in
    c.joined-2.ensures ∙ ap (joined_ends before) (c.past.ensures ∙ ap (λ s. past_over a s c.args.x1) c.max.ensures)
    ∙ ap (λ (xs : List Node). over_from before a xs c.args.x0 c.args.x1) (sym none) ∙ c.loop-i.invariant.walk
