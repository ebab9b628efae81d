use Rattle.std.proofs.Common.{◌≡◌, ◌+◌, ◌<◌, ℕ, drop, get_or, []}
use Rattle.std.specs.Prelude.{None}
use Rattle.box_specs.specs.Span.{IsWithin, lists}
use Rattle.box_specs.specs.Validity.{list_failure}
use Rattle.cert_check.specs.Ready.{previous_of}
use Rattle.cert_check.proofs.list.list_failure.Given as goal

abbrev pub invariant-loop-i : goal.invariant-loop-i
invariant-loop-i g l = record {
  rest : list_failure (g.L.Landscape.land l.land) l.cutoff (l.first_line + l.i) (previous_of (lists l.listed) l.i) (drop l.i (lists l.listed))
      ≡ list_failure (g.L.Landscape.land l.land) l.cutoff l.first_line None (lists l.listed);
  grid : (k : ℕ) → k < l.i → IsWithin (get_or (lists l.listed) k []) (g.L.Landscape.land l.land).top;
}
