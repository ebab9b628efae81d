use Rattle.shade_report.proofs.Undecided.{undecided_start}
use Rattle.shade_report.proofs.outcome.push_undecided.Goals as goal

pub loop-shown-init : goal.loop-shown-init
loop-shown-init c = undecided_start c.args.undecided.now c.args.text.now.items c.push_line.new.text.items c.in_ok-push_line.ensures
