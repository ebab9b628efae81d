use Rattle.std.proofs.Common.{◌≡◌, ◌+◌, ◌≤◌, ◌∷◌, [], drop, length}
use Rattle.std.specs.List.{AllByRecursion}
use Rattle.box_specs.specs.Landscape.{IsSound}
use Rattle.box_specs.specs.Span.{lists}
use Rattle.box_specs.specs.Validity.{corners, is_pass_line, is_undecided_line, line_failure}
use Rattle.cert_check.specs.Held.{AllHeld, boxes}
use Rattle.cert_check.specs.Marks.{HasMarks}
use Rattle.cert_check.proofs.walking.walk.Given as goal

abbrev pub invariant-loop-i : goal.invariant-loop-i
invariant-loop-i g l = record {
  rest : line_failure (g.L.Landscape.land l.land) l.stance.cutoff (lists l.stance.matched.now) (lists l.stance.listed.now) (4 + length (lists l.stance.listed.now) + l.i) (boxes l.waiting) (drop l.i l.lines)
      ≡ line_failure (g.L.Landscape.land l.land) l.stance.cutoff (lists l.stance.matched.now) (lists l.stance.listed.now) (4 + length (lists l.stance.listed.now)) ((g.L.Landscape.land l.land).top ∷ []) l.lines;
  passed : HasMarks l.marks.passed.items (corners is_pass_line (boxes l.waiting) (drop l.i l.lines)) (lists l.stance.matched.now)
      (corners is_pass_line ((g.L.Landscape.land l.land).top ∷ []) l.lines);
  unsure : HasMarks l.marks.unsure.items (corners is_undecided_line (boxes l.waiting) (drop l.i l.lines)) (lists l.stance.listed.now)
      (corners is_undecided_line ((g.L.Landscape.land l.land).top ∷ []) l.lines);
  parts : AllByRecursion (IsSound (g.L.Landscape.land l.land)) (boxes l.waiting);
  held : AllHeld (g.L.Carrying.stands l.land) l.waiting;
  judged : g.L.Landscape.judged_count l.land l.meter ≤ g.L.Landscape.judged_count l.fn.land l.fn.meter + l.i;
  fresh : g.L.Landscape.fresh_count l.land l.meter ≤ g.L.Landscape.fresh_count l.fn.land l.fn.meter + 1;
}
