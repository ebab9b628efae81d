use Rattle.std.proofs.Common.{◌≡◌, ◌<◌, ◌≤◌, ◌-◌, ℕ, length, [], true, false, get_or}
use Rattle.box_specs.specs.Landscape.{is_before}
use Rattle.box_specs.specs.Span.{lists}
use Rattle.cert_check.proofs.list.lower_bound.Given as goal

abbrev pub invariant-halving : goal.invariant-halving
invariant-halving g l = record {
  order : l.low ≤ l.high;
  end : l.high ≤ length (lists l.listed);
  below : (k : ℕ) → k < l.low → is_before (g.L.Landscape.land l.land) (get_or (lists l.listed) k []) l.steps.items ≡ true;
  above : (k : ℕ) → l.high ≤ k → k < length (lists l.listed) → is_before (g.L.Landscape.land l.land) (get_or (lists l.listed) k []) l.steps.items ≡ false;
}

abbrev pub decreases-halving : goal.decreases-halving
decreases-halving g l = l.high - l.low
