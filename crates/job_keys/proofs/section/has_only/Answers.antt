use Rattle.std.proofs.Common.{◌∙◌}
use Rattle.job_keys.proofs.TableFacts.{has_only_view}
use Rattle.job_keys.proofs.section.has_only.Goals as goal

pub returns : goal.returns
returns c = c.are_keys_of.ensures ∙ has_only_view c.args.keys.now c.args.table.now.entries
