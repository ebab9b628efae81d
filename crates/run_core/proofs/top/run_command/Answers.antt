use Rattle.run_core.proofs.Table.{complete_ended, reliable_ended}
use Rattle.run_core.proofs.top.run_command.Goals as goal

pub returns-clause-complete : goal.returns-clause-complete
returns-clause-complete g c = complete_ended _ _ _ _ c.speak.ensures.ended

pub returns-clause-reliable : goal.returns-clause-reliable
returns-clause-reliable g c = reliable_ended _ _ _ _ c.speak.ensures.ended
