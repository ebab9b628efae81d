use Rattle.std.proofs.Common.{◌≡◌, ◌+◌, ◌∙◌, ◌∷◌, [], sym, ap, subst, arith, ℕ, length}
use Rattle.std.specs.Prelude.{Some}
use Rattle.std.proofs.lemmas.List.{length-map}
use Rattle.box_specs.specs.Span.{Span, lists}
use Rattle.box_specs.specs.Tree.{spot_of}
use Rattle.box_search.specs.Answers.{IsShown}
use Rattle.box_search.specs.declared.found.End.{End}
use Rattle.box_search.specs.declared.found.End.TheVariants.{Enough, Exhausted, Stopped}
use Rattle.arrayvec.specs.ArrayVec.{ArrayVec}
use Rattle.box_specs.proofs.Tests.{tested}
use Rattle.box_search.specs.Frontier.{waits_in, with_hand}
use Rattle.box_search.specs.Waiting.{box_of, seen, seen_box, seen_hand}
use Rattle.box_search.specs.State.{with_entry}
use Rattle.box_search.specs.Nodes.{part_of, parts}
use Rattle.box_search.specs.Places.{at, place, spot}
use Rattle.box_specs.specs.Canonical.{line_of}
use Rattle.box_search.proofs.Finding.{begins, found_floor, found_none, found_of, goes_on, moves, sound_at, still_fewer, wins}
use Rattle.box_search.proofs.Seen.{first_seen, held_first}
use Rattle.box_specs.proofs.Spans.{same_inside}
use Rattle.box_search.proofs.find.find.Goals.{in-None, in-Some-take}
use Rattle.box_search.proofs.find.find.Goals as goal

pub place_of-place-requires : goal.place_of-place-requires
place_of-place-requires g c = same_inside c.top-whole.result.part _ c.top-whole.ensures.part

pub loop-boxes-init : goal.loop-boxes-init
loop-boxes-init g c =
    let l = g.L.Landscape.land c.args.land.now in
    let whole = c.top-whole.ensures.part in
    record {
      going = begins l c.top-top.ensures.lawful (g.L.Carrying.stands c.args.land.now) c.of-frontier.result c.place_of-place.result (record { carried = c.top-whole.result; node = 0 })
          c.in_ok-nodes.nodes.items (lists c.new-matched.result.items) (lists c.new-undecided.result.items)
          c.of-frontier.ensures.hand (c.place_of-place.ensures ∙ ap (λ (b : Span). place (spot_of l 0 b)) whole) (λ i. record { part = whole i; node = 0 }) c.top-whole.ensures.stands c.of-frontier.ensures.map
          (c.in_ok-nodes.ensures.items ∙ (λ i. c.unjudged.ensures i ∷ [])) (ap lists c.new-matched.ensures.items) (ap lists c.new-undecided.ensures.items);
      fewer = omega (arith, c.requires.some, ap (λ xs. length (lists xs)) c.new-matched.ensures.items);
      spent = omega (arith, c.top-whole.ensures.judged);
      fresh = c.top-whole.ensures.fresh;
    }

pub returns-in_default-clause-shown : goal.returns-in_default-clause-shown
returns-in_default-clause-shown g c =
    let l = g.L.Landscape.land c.args.land.now in
    let going = c.loop-boxes.invariant.going in
    found_none l c.top-top.ensures.lawful (seen (waits_in c.loop-boxes.frontier)) going.g going.last c.loop-boxes.boxes _ _ c.args.wanted c.args.budget c.loop-boxes.tally.nodes.items going.state going.arena going.few
    c.loop-boxes.invariant.fewer (λ z. ap seen_box (c.in_default.ensures.none z)) (omega (arith, c.loop-boxes-test.true))

pub returns-in_default-clause-judged : goal.returns-in_default-clause-judged
returns-in_default-clause-judged g c = c.loop-boxes.invariant.spent

pub returns-in_default-clause-at_most : goal.returns-in_default-clause-at_most
returns-in_default-clause-at_most g c = omega (arith, c.loop-boxes.invariant.spent, c.loop-boxes-test.true)

pub turn-requires-clause-held : goal.turn-requires-clause-held
turn-requires-clause-held g c =
    (held_first (g.L.Carrying.stands c.args.land.now) (waits_in c.loop-boxes.frontier) (at c.take.new.self.map) (spot c.in-Some.taken.0) c.in-Some.taken.1 c.loop-boxes.invariant.going.held c.in-Some.ensures.first).0

pub turn-requires-clause-others : goal.turn-requires-clause-others
turn-requires-clause-others g c =
    (held_first (g.L.Carrying.stands c.args.land.now) (waits_in c.loop-boxes.frontier) (at c.take.new.self.map) (spot c.in-Some.taken.0) c.in-Some.taken.1 c.loop-boxes.invariant.going.held c.in-Some.ensures.first).1

pub turn-requires-clause-sound : goal.turn-requires-clause-sound
turn-requires-clause-sound g c =
    let going = c.loop-boxes.invariant.going in
    sound_at (g.L.Landscape.land c.args.land.now) c.top-top.ensures.lawful _ _ going.last c.loop-boxes.boxes _ _ (spot c.in-Some.taken.0) c.in-Some.taken.1.carried.part going.state (ap (λ o. part_of (seen_box o)) c.in-Some.ensures.first.waits)

pub turn-requires-clause-depth : goal.turn-requires-clause-depth
turn-requires-clause-depth g c =
    let deep = c.loop-boxes.invariant.going.state.shallow (spot c.in-Some.taken.0) c.in-Some.taken.1.carried.part (ap (λ o. part_of (seen_box o)) c.in-Some.ensures.first.waits) in
    omega (arith, deep, c.loop-boxes-test.true, c.requires.few)

pub turn-requires-clause-there : goal.turn-requires-clause-there
turn-requires-clause-there g c =
    let arena = c.loop-boxes.invariant.going.arena in
    arena.there (spot c.in-Some.taken.0) c.in-Some.taken.1.node (arena.waits (spot c.in-Some.taken.0) (box_of c.in-Some.taken.1) (ap seen_box c.in-Some.ensures.first.waits)).0

pub turn-requires-clause-few : goal.turn-requires-clause-few
turn-requires-clause-few g c = omega (arith, c.loop-boxes.invariant.going.few, c.loop-boxes-test.true, c.requires.few)

pub returns-in_err-turn-clause-at_most : goal.returns-in_err-turn-clause-at_most
returns-in_err-turn-clause-at_most g c = omega (arith, c.loop-boxes.invariant.spent, c.loop-boxes-test.true, c.turn.ensures.judged)

pub returns-then-is_enough-clause-shown : goal.returns-then-is_enough-clause-shown
returns-then-is_enough-clause-shown g c =
    let l = g.L.Landscape.land c.args.land.now in
    let lawful = c.top-top.ensures.lawful in
    let inv = c.loop-boxes.invariant in
    let going = inv.going in
    let q = spot c.in-Some.taken.0 in
    let waiting = box_of c.in-Some.taken.1 in
    let part = waiting.part in
    let n = c.loop-boxes.boxes in
    let m = seen (waits_in c.loop-boxes.frontier) in
    let m2 = with_hand (seen_hand c.turn.new.frontier.hand) (seen (at c.turn.new.frontier.map)) in
    let first = first_seen (waits_in c.loop-boxes.frontier) (at c.take.new.self.map) q c.in-Some.taken.1 c.in-Some.ensures.first in
    let g2 = with_entry q (line_of l part) going.g in
    let ms = lists c.loop-boxes.tally.matched.items in
    let ms2 = lists c.turn.new.tally.matched.items in
    let rs = lists c.loop-boxes.tally.undecided.items in
    let rs2 = lists c.turn.new.tally.undecided.items in
    let new = goes_on l lawful m (seen (at c.take.new.self.map)) (seen (at c.turn.new.frontier.map)) (seen_hand c.turn.new.frontier.hand) going.g going.last n ms ms2 rs rs2
    c.loop-boxes.tally.nodes.items c.turn.new.tally.nodes.items q waiting going.state going.arena going.few first c.in_ok-turn.ensures.hand
    (λ z. c.in_ok-turn.ensures.map z) c.in_ok-turn.ensures.nodes c.in_ok-turn.ensures.matched c.in_ok-turn.ensures.listed in
    let long : length ms2 ≡ length c.as_slice.result.now = length-map c.turn.new.tally.matched.items (λ (steps : ArrayVec ℕ). steps.items) ∙ sym (ap length c.as_slice.ensures.value) in
    let many : length ms2 ≡ c.args.wanted = long ∙ tested (length c.as_slice.result.now) c.args.wanted (sym c.is_enough.ensures ∙ c.if-is_enough.true) in
    let need = wins l lawful (parts m) (parts m2) going.g g2 going.last n (n + 1) ms ms2 rs rs2 q part c.args.wanted going.state (ap part_of first.waits) new.state
    c.in_ok-turn.ensures.matched inv.fewer many in
    found_of l lawful m2 g2 (Some q) (n + 1) ms2 rs2 c.args.wanted c.args.budget Enough c.turn.new.tally.nodes.items new.state new.arena new.few (omega (arith, need, c.loop-boxes-test.true))
    (omega (arith, need, c.loop-boxes-test.true), many) (omega (arith, many))

pub returns-then-is_enough-clause-judged : goal.returns-then-is_enough-clause-judged
returns-then-is_enough-clause-judged g c = omega (arith, c.loop-boxes.invariant.spent, c.turn.ensures.judged)

pub returns-then-is_enough-clause-at_most : goal.returns-then-is_enough-clause-at_most
returns-then-is_enough-clause-at_most g c = omega (arith, c.loop-boxes.invariant.spent, c.loop-boxes-test.true, c.turn.ensures.judged)

pub loop-boxes-preserved : goal.loop-boxes-preserved
loop-boxes-preserved g c =
    let l = g.L.Landscape.land c.args.land.now in
    let inv = c.loop-boxes.invariant in
    let going = inv.going in
    let q = spot c.in-Some.taken.0 in
    let waiting = box_of c.in-Some.taken.1 in
    let ms = lists c.loop-boxes.tally.matched.items in
    let ms2 = lists c.turn.new.tally.matched.items in
    let first = first_seen (waits_in c.loop-boxes.frontier) (at c.take.new.self.map) q c.in-Some.taken.1 c.in-Some.ensures.first in
    let new = goes_on l c.top-top.ensures.lawful (seen (waits_in c.loop-boxes.frontier)) (seen (at c.take.new.self.map)) (seen (at c.turn.new.frontier.map)) (seen_hand c.turn.new.frontier.hand) going.g
    going.last c.loop-boxes.boxes ms ms2 (lists c.loop-boxes.tally.undecided.items) (lists c.turn.new.tally.undecided.items) c.loop-boxes.tally.nodes.items c.turn.new.tally.nodes.items
    q waiting going.state going.arena going.few first c.in_ok-turn.ensures.hand (λ z. c.in_ok-turn.ensures.map z) c.in_ok-turn.ensures.nodes
    c.in_ok-turn.ensures.matched c.in_ok-turn.ensures.listed in
    record {
      going = moves l (g.L.Carrying.stands c.args.land.now) c.turn.new.frontier (with_entry q (line_of l waiting.part) going.g) c.turn.new.tally.nodes.items q (c.loop-boxes.boxes + 1) ms2 (lists c.turn.new.tally.undecided.items)
          new.state new.ahead new.arena c.in_ok-turn.ensures.held new.few;
      fewer = still_fewer l c.top-top.ensures.lawful _ waiting.part ms ms2 (length c.as_slice.result.now) c.args.wanted c.in_ok-turn.ensures.matched inv.fewer
          (length-map c.turn.new.tally.matched.items (λ (steps : ArrayVec ℕ). steps.items) ∙ sym (ap length c.as_slice.ensures.value))
          (sym c.is_enough.ensures ∙ c.if-is_enough.false);
      spent = omega (arith, c.loop-boxes.invariant.spent, c.turn.ensures.judged);
      fresh = omega (arith, c.loop-boxes.invariant.fresh, c.turn.ensures.fresh);
    }

pub returns-clause-shown : goal.returns-clause-shown
returns-clause-shown g c =
    let l = g.L.Landscape.land c.args.land.now in
    let inv = c.loop-boxes.invariant in
    let going = inv.going in
    let n = c.loop-boxes.boxes in
    let whole : n ≡ c.args.budget = omega (arith, c.loop-boxes-test.false, c.loop-boxes.auto.boxes-end) in
    let ms = lists c.loop-boxes.tally.matched.items in
    let rs = lists c.loop-boxes.tally.undecided.items in
    let nodes = c.loop-boxes.tally.nodes.items in
    let F : End → Type 0 = λ end. IsShown l c.args.wanted c.args.budget end ms rs c.args.budget nodes in
    let m = seen (waits_in c.loop-boxes.frontier) in
    elim c.match-take-2.branch as (λ _. F c.match-take-2.end) [
      | in-None w ↦
          subst F (sym w.end-is) (subst (λ k. IsShown l c.args.wanted c.args.budget Exhausted ms rs k nodes) whole
          (found_none l c.top-top.ensures.lawful m going.g going.last n ms rs c.args.wanted c.args.budget nodes going.state going.arena going.few inv.fewer (λ z. ap seen_box (w.in-None.ensures.none z)) (omega (arith, whole))))
      | in-Some-take w ↦
          let h = w.in-Some-take in
          subst F (sym w.end-is) (subst (λ k. IsShown l c.args.wanted c.args.budget (Stopped h.place.key.cost) ms rs k nodes) whole
          (found_floor l c.top-top.ensures.lawful m going.g going.last n ms rs c.args.wanted c.args.budget nodes going.state going.arena going.few inv.fewer (spot h.place) (box_of h._next) _ (first_seen (waits_in c.loop-boxes.frontier) _ (spot h.place) h._next h.ensures.first) whole))
    ]

pub returns-clause-judged : goal.returns-clause-judged
returns-clause-judged g c = omega (arith, c.loop-boxes.invariant.spent, c.loop-boxes-test.false, c.loop-boxes.auto.boxes-end)

pub returns-clause-at_most : goal.returns-clause-at_most
returns-clause-at_most g c = omega (arith, c.loop-boxes.invariant.spent, c.loop-boxes-test.false, c.loop-boxes.auto.boxes-end)
