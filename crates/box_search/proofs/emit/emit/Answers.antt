use Rattle.std.proofs.Common.{◌∷◌, ◌∙◌, arith}
use Rattle.box_search.proofs.Emitting.{all_written, begins, goes_on, next_of, none_left}
use Rattle.box_search.proofs.emit.emit.Goals as goal

pub loop-turn-init : goal.loop-turn-init
loop-turn-init g c =
    begins (g.L.Landscape.land c.args.land.now) c.top-top.ensures.lawful c.args.nodes.now c.args.boxes c.put.new.self c.new-out.result.items c.requires.shown
    (c.in_ok-put.ensures ∙ (λ i. 0 ∷ c.new-stack.ensures i)) c.new-out.ensures.items

pub returns-in_default : goal.returns-in_default
returns-in_default g c =
    none_left (g.L.Landscape.land c.args.land.now) c.args.nodes.now c.args.boxes c.loop-turn.stack c.loop-turn.out.items c.loop-turn._turn c.loop-turn.invariant c.in_default.ensures.0

pub write_next-requires-clause-there : goal.write_next-requires-clause-there
write_next-requires-clause-there g c =
    (next_of (g.L.Landscape.land c.args.land.now) c.args.nodes.now c.args.boxes c.loop-turn.stack c.loop-turn.out.items c.loop-turn._turn c.in-Some.i c.take.new.self c.loop-turn.invariant c.in-Some.ensures).there

pub write_next-requires-clause-halves : goal.write_next-requires-clause-halves
write_next-requires-clause-halves g c =
    (next_of (g.L.Landscape.land c.args.land.now) c.args.nodes.now c.args.boxes c.loop-turn.stack c.loop-turn.out.items c.loop-turn._turn c.in-Some.i c.take.new.self c.loop-turn.invariant c.in-Some.ensures).halves

pub loop-turn-preserved : goal.loop-turn-preserved
loop-turn-preserved g c =
    goes_on (g.L.Landscape.land c.args.land.now) c.args.nodes.now c.args.boxes c.loop-turn.stack c.write_next.new.stack c.loop-turn.out.items c.write_next.new.out.items c.loop-turn._turn
    c.in-Some.i c.take.new.self c.loop-turn.invariant c.in-Some.ensures c.in_ok-write_next.ensures.stack c.in_ok-write_next.ensures.out

pub returns : goal.returns
returns g c =
    all_written (g.L.Landscape.land c.args.land.now) c.args.nodes.now c.args.boxes c.loop-turn.stack c.loop-turn.out.items c.loop-turn._turn c.loop-turn.invariant
    (omega (arith, c.requires.short, c.loop-turn-test.false, c.loop-turn.auto._turn-end))
