use Rattle.std.proofs.Common.{ap, ◌∙◌}
use Rattle.toml.specs.View.{members_view, view}
use Rattle.demo_jobs.specs.Members.{insert_member}
use Rattle.demo_jobs.proofs.TableFacts.{inserted}
use Rattle.demo_jobs.proofs.tables.put.Goals as goal

pub returns-in-Ok : goal.returns-in-Ok
returns-in-Ok c =
    ap members_view c.in-Ok.ensures.entries ∙ inserted c.args.table.now.entries c.in_ok-key.key c.args.value ∙ ap (λ k. insert_member k (view c.args.value) (members_view c.args.table.now.entries)) c.in_ok-key.ensures.ok
