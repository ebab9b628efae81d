use Rattle.std.proofs.Common.{◌≡◌, map, take}
use Rattle.toml.specs.Data.{table}
use Rattle.toml.specs.View.{view}
use Rattle.demo_jobs.specs.JobTable.{dyeing_table}
use Rattle.demo_jobs.proofs.job_table.dyeing_tables.Given as goal

abbrev pub invariant-loop-dyeing : goal.invariant-loop-dyeing
invariant-loop-dyeing l =
    map view l.tables.items ≡ map table (map (dyeing_table l.dye) (take l.dyeing-index l.dyeing-items))
