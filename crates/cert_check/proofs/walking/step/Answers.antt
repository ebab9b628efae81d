use Rattle.std.proofs.Common.{◌∙◌, sym, ap}
use Rattle.box_specs.specs.Span.{lists}
use Rattle.cert_check.specs.Held.{boxes}
use Rattle.cert_check.specs.Walk.{with_halves}
use Rattle.cert_check.proofs.Held.{boxes_put}
use Rattle.cert_check.proofs.Results.{is_none}
use Rattle.cert_check.proofs.Walks.{advances, after_is}
use Rattle.cert_check.proofs.walking.step.Goals as goal

pub returns-clause-goes : goal.returns-clause-goes
returns-clause-goes g c = λ none.
    let found = is_none c.check_line-fault.result.0 c.is_some.result c.is_some.ensures c.if-is_some.false in
    advances (g.L.Landscape.land c.args.land.now) c.args.stance.now.cutoff (lists c.args.stance.now.matched.now) (lists c.args.stance.now.listed.now) c.args.line
    (boxes c.args.waiting.now) c.in-Some.whole.part (boxes c.take.new.self) (boxes c.put_halves.new.self) (ap boxes c.in-Some.ensures) c.requires.parts (sym c.check_line-fault.ensures.is ∙ found)
    (ap boxes c.in_ok-put_halves.ensures ∙ boxes_put c.check_line-fault.result.1 c.take.new.self ∙ ap (λ h. with_halves h (boxes c.take.new.self)) (c.check_line-fault.ensures.halves found)
    ∙ after_is c.in-Some.whole.part (boxes c.take.new.self) c.args.line)
