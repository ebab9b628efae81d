use Rattle.toml.proofs.Views.{table_get}
use Rattle.job_keys.proofs.section.Section.get.Goals as goal

pub returns : goal.returns
returns c = table_get _ c.args.key.now c.args.self.now.table.now.entries c.get.ensures.value
