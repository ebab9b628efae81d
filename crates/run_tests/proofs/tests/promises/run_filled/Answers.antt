use Rattle.std.proofs.Common.{map, string_bytes}
use Rattle.dye_run.specs.Commands.{plan_for}
use Rattle.run_tests.proofs.Filled.{is_reliable}
use Rattle.run_tests.proofs.tests.promises.run_filled.Goals as goal

pub returns : goal.returns
returns c = is_reliable (plan_for (map string_bytes c.args.words.now)) c.args.room c.args.slots _ _ _ _ _ _ c.in_ok-shelf.ensures c.run-status.ensures.reliable
