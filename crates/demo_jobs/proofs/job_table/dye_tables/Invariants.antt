use Rattle.std.proofs.Common.{◌≡◌, map, take}
use Rattle.toml.specs.Data.{table}
use Rattle.toml.specs.View.{view}
use Rattle.demo_jobs.specs.JobTable.{dye_table}
use Rattle.demo_jobs.proofs.job_table.dye_tables.Given as goal

abbrev pub invariant-loop-dye : goal.invariant-loop-dye
invariant-loop-dye l =
    map view l.tables.items ≡ map table (map dye_table (take l.dye-index l.dyes))
