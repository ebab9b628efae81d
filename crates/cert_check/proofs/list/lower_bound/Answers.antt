use Rattle.std.proofs.Common.{◌≡◌, ◌+◌, ◌-◌, ◌/◌, ◌∙◌, ℕ, List, true, false, sym, subst, arith}
use Rattle.box_specs.specs.Landscape.{is_before}
use Rattle.box_specs.specs.Span.{lists}
use Rattle.cert_check.proofs.Order.{above_mid, below_mid}
use Rattle.cert_check.proofs.list.lower_bound.Goals as goal

pub halving-preserved-then-is_before : goal.halving-preserved-then-is_before
halving-preserved-then-is_before g c =
    let l = g.L.Landscape.land c.args.land.now in
    record {
      order = omega arith;
      end = c.halving.invariant.end;
      below = below_mid l (lists c.args.listed.now) c.args.steps.now.items c.requires.sorted
          (c.halving.low + (c.halving.high - c.halving.low) / 2) (omega (arith, c.halving.invariant.end))
          (subst (λ (r : List ℕ). is_before l r c.args.steps.now.items ≡ true) c.recipe_at.ensures (sym c.is_before.ensures ∙ c.if-is_before.true));
      above = c.halving.invariant.above;
    }

pub halving-preserved : goal.halving-preserved
halving-preserved g c =
    let l = g.L.Landscape.land c.args.land.now in
    record {
      order = omega arith;
      end = omega (arith, c.halving.invariant.end);
      below = c.halving.invariant.below;
      above = above_mid l (lists c.args.listed.now) c.args.steps.now.items c.requires.sorted
          (c.halving.low + (c.halving.high - c.halving.low) / 2)
          (subst (λ (r : List ℕ). is_before l r c.args.steps.now.items ≡ false) c.recipe_at.ensures (sym c.is_before.ensures ∙ c.if-is_before.false));
    }
