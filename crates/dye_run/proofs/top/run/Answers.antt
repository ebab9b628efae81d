use Rattle.std.proofs.Common.{map, string_bytes, subst}
use Rattle.dye_run.specs.Forms.{form_of}
use Rattle.run_core.specs.Endings.{Changes, Ended, world}
use Rattle.run_core.specs.Statuses.{IsComplete, IsReliable}
use Rattle.dye_run.proofs.FormsProper.{planned, plans_proper}
use Rattle.dye_run.proofs.Headline.{says_of_recipes}
use Rattle.run_core.proofs.Table.{status_tells}
use Rattle.dye_run.proofs.top.run.Goals as goal

pub returns-clause-ended : goal.returns-clause-ended
returns-clause-ended g c =
    subst (λ plan. Ended plan (world (g.H.Shelf.view c.args.shelf.now) (g.O.Sink.view c.args.out.now)) (world (g.H.Shelf.view c.run_command.new.shelf) (g.O.Sink.view c.run_command.new.out)) c.run_command.result)
    (planned c.command_of.result (form_of (map string_bytes c.args.words.now)) c.command_of.ensures) c.run_command.ensures.ended

pub returns-clause-status : goal.returns-clause-status
returns-clause-status g c = status_tells _ _ _ _ (plans_proper _ (map string_bytes c.args.words.now)) (returns-clause-ended g c)

pub returns-clause-complete : goal.returns-clause-complete
returns-clause-complete g c =
    subst (λ plan. IsComplete plan (world (g.H.Shelf.view c.args.shelf.now) (g.O.Sink.view c.args.out.now)) (world (g.H.Shelf.view c.run_command.new.shelf) (g.O.Sink.view c.run_command.new.out)) c.run_command.result)
    (planned c.command_of.result (form_of (map string_bytes c.args.words.now)) c.command_of.ensures) c.run_command.ensures.complete

pub returns-clause-reliable : goal.returns-clause-reliable
returns-clause-reliable g c =
    subst (λ plan. IsReliable plan (world (g.H.Shelf.view c.args.shelf.now) (g.O.Sink.view c.args.out.now)) (world (g.H.Shelf.view c.run_command.new.shelf) (g.O.Sink.view c.run_command.new.out)) c.run_command.result)
    (planned c.command_of.result (form_of (map string_bytes c.args.words.now)) c.command_of.ensures) c.run_command.ensures.reliable

pub returns-clause-recipes : goal.returns-clause-recipes
returns-clause-recipes g c = says_of_recipes (map string_bytes c.args.words.now) _ _ _ (returns-clause-status g c)

pub returns-clause-changes : goal.returns-clause-changes
returns-clause-changes g c =
    subst (λ plan. Changes plan (world (g.H.Shelf.view c.args.shelf.now) (g.O.Sink.view c.args.out.now)) (world (g.H.Shelf.view c.run_command.new.shelf) (g.O.Sink.view c.run_command.new.out)))
    (planned c.command_of.result (form_of (map string_bytes c.args.words.now)) c.command_of.ensures) c.run_command.ensures.changes
