use Rattle.std.proofs.Common.{◌≡◌, ◌+◌, ◌∷◌, [], ◌∙◌, ℕ, Bool, false, List, length, get_or, drop, replicate, sym, ap, subst, arith}
use Rattle.std.specs.List.{AllByRecursion}
use Rattle.box_specs.specs.Landscape.{IsSound}
use Rattle.box_specs.specs.Span.{Span, lists}
use Rattle.box_specs.specs.Validity.{corners, is_pass_line, is_undecided_line, line_failure}
use Rattle.box_specs.specs.declared.certificate.CertLine.{CertLine}
use Rattle.box_specs.specs.declared.certificate.CertLine.TheVariants.{Split}
use Rattle.cert_check.specs.Held.{AllHeld, boxes}
use Rattle.cert_check.specs.Marks.{HasMarks}
use Rattle.cert_check.specs.Walk.{next_recipe}
use Rattle.cert_check.proofs.Marking.{marks_blank, marks_on}
use Rattle.cert_check.proofs.Parts.{top_part}
use Rattle.cert_check.proofs.Walks.{corners_more, walk_more}
use Rattle.cert_check.proofs.walking.walk.Goals as goal

-- the marks of a list at the beginning
blank : (test : CertLine → Bool) (marks : List Bool) (listed : List (List ℕ)) (top waiting : List Span) (lines : List CertLine)
    → marks ≡ replicate (length listed) false → waiting ≡ top → HasMarks marks (corners test waiting lines) listed (corners test top lines)
blank test marks listed top waiting lines m w =
    subst (λ (ms : List Bool). HasMarks ms (corners test waiting lines) listed (corners test top lines)) (sym m)
    (subst (λ (bs : List Span). HasMarks (replicate (length listed) false) (corners test bs lines) listed (corners test top lines)) (sym w) (marks_blank listed (corners test top lines)))

pub loop-i-init : goal.loop-i-init
loop-i-init g c =
    let l = g.L.Landscape.land c.args.land.now in
    let matched = lists c.args.stance.now.matched.now in
    let listed = lists c.args.stance.now.listed.now in
    let start : boxes c.put.new.self ≡ l.top ∷ [] = ap boxes c.in_ok-put.ensures ∙ (λ i. c.top.ensures.part i ∷ boxes (c.new-waiting.ensures i)) in
    let number : 4 + length listed + 0 ≡ 4 + length listed = omega arith in
    record {
      rest = ap (λ (bs : List Span). line_failure l c.args.stance.now.cutoff matched listed (4 + length listed + 0) bs c.args.lines.now) start
          ∙ ap (λ n. line_failure l c.args.stance.now.cutoff matched listed n (l.top ∷ []) c.args.lines.now) number;
      passed = blank is_pass_line c.args.marks.now.passed.items matched (l.top ∷ []) (boxes c.put.new.self) c.args.lines.now c.requires.passed start;
      unsure = blank is_undecided_line c.args.marks.now.unsure.items listed (l.top ∷ []) (boxes c.put.new.self) c.args.lines.now c.requires.unsure start;
      parts = subst (AllByRecursion (IsSound l)) (sym start) (top_part l c.requires.ready.lawful, tt);
      held = subst (AllHeld (g.L.Carrying.stands c.args.land.now)) (sym (c.in_ok-put.ensures ∙ (λ i. c.top.result ∷ c.new-waiting.ensures i))) (c.top.ensures.stands, tt);
      judged = omega (arith, c.top.ensures.judged);
      fresh = c.top.ensures.fresh;
    }

pub loop-i-preserved : goal.loop-i-preserved
loop-i-preserved g c =
    let l = g.L.Landscape.land c.args.land.now in
    let matched = lists c.args.stance.now.matched.now in
    let listed = lists c.args.stance.now.listed.now in
    let line = get_or c.args.lines.now c.loop-i.i (Split 0 0) in
    let none = sym c.in_ok-fault.ensures.fault ∙ c.in_default.is in
    let on = c.in_ok-fault.ensures.goes c.in_default.is in
    let both = c.in_ok-fault.ensures.marks c.in_default.is in
    let bound = c.in_ok-fault.ensures.judged in
    record {
      rest = walk_more l c.args.stance.now.cutoff matched listed (4 + length listed) c.loop-i.i c.args.lines.now (boxes c.loop-i.waiting) (boxes c.step.new.waiting)
          c.loop-i-test.true (Split 0 0) none on.waiting ∙ c.loop-i.invariant.rest;
      passed = marks_on c.loop-i.marks.passed.items c.step.new.marks.passed.items (corners is_pass_line (boxes c.loop-i.waiting) (drop c.loop-i.i c.args.lines.now))
          (next_recipe is_pass_line (boxes c.loop-i.waiting) line) (corners is_pass_line (boxes c.step.new.waiting) (drop (c.loop-i.i + 1) c.args.lines.now)) matched
          (corners is_pass_line (l.top ∷ []) c.args.lines.now) c.loop-i.invariant.passed
          (corners_more is_pass_line c.loop-i.i c.args.lines.now (boxes c.loop-i.waiting) (boxes c.step.new.waiting) c.loop-i-test.true (Split 0 0) on.waiting) both.passed;
      unsure = marks_on c.loop-i.marks.unsure.items c.step.new.marks.unsure.items (corners is_undecided_line (boxes c.loop-i.waiting) (drop c.loop-i.i c.args.lines.now))
          (next_recipe is_undecided_line (boxes c.loop-i.waiting) line) (corners is_undecided_line (boxes c.step.new.waiting) (drop (c.loop-i.i + 1) c.args.lines.now)) listed
          (corners is_undecided_line (l.top ∷ []) c.args.lines.now) c.loop-i.invariant.unsure
          (corners_more is_undecided_line c.loop-i.i c.args.lines.now (boxes c.loop-i.waiting) (boxes c.step.new.waiting) c.loop-i-test.true (Split 0 0) on.waiting) both.unsure;
      parts = on.parts;
      held = c.in_ok-fault.ensures.held c.in_default.is;
      judged = omega (arith, bound, c.loop-i.invariant.judged);
      fresh = omega (arith, c.in_ok-fault.ensures.fresh, c.loop-i.invariant.fresh);
    }

pub returns-in_err-fault-clause-fresh : goal.returns-in_err-fault-clause-fresh
returns-in_err-fault-clause-fresh g c = omega (arith, c.loop-i.invariant.fresh, c.step.ensures.fresh)

pub returns-in-Some-clause-fresh : goal.returns-in-Some-clause-fresh
returns-in-Some-clause-fresh g c = omega (arith, c.loop-i.invariant.fresh, c.step.ensures.fresh)

pub returns-clause-fresh : goal.returns-clause-fresh
returns-clause-fresh g c = c.loop-i.invariant.fresh
