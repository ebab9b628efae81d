-- A whole job.
use Rattle.std.specs.Prelude.{ℕ, Option, None, Result, Ok, List, [], if◌then◌else◌}
use Rattle.std.specs.Str.{is_utf8}
use Rattle.toml.specs.Data.{Members}
use Rattle.toml.specs.Parse.{parse_document}
use Rattle.job_file.specs.declared.batch.JobBatch.{JobBatch}
use Rattle.job_file.specs.declared.dye.JobDye.{JobDye}
use Rattle.job_keys.specs.declared.fault.JobFault.{JobFault}
use Rattle.job_keys.specs.declared.fault.JobRule.TheVariants.{NotToml}
use Rattle.job_keys.specs.declared.fault.Part.TheVariants.{Job}
use Rattle.job_keys.specs.declared.fault.Position.{Position}
use Rattle.job_keys.specs.declared.light.JobLight.{JobLight}
use Rattle.job_keys.specs.declared.pair.JobPair.{JobPair}
use Rattle.job_file.specs.declared.top.BatchRule.{BatchRule}
use Rattle.job_file.specs.declared.top.Head.{Head}
use Rattle.job_keys.specs.Arrays.{each, if_there}
use Rattle.job_file.specs.Batch.{batch_of}
use Rattle.job_file.specs.Dye.{has_dye, next_dye}
use Rattle.job_keys.specs.Faults.{◌>>=◌, ◌>>◌, or_fault}
use Rattle.job_keys.specs.Keys.{Entries}
use Rattle.job_keys.specs.Light.{next_light}
use Rattle.job_keys.specs.Pair.{next_pair}
use Rattle.job_file.specs.Top.{head, inner, keys}

-- the values of a job
pub record Values : Type 0 where
  pub head : Head
  pub light : List JobLight
  pub dye : List JobDye
  pub pair : List JobPair
  pub batch : Option JobBatch

abbrev pub job_position : Position
job_position = record { part = Job; item = 0; sub = 0 }

-- the table of the whole job first, then its lights, its dyes with their dyeings, its pairs and its
-- batch
unfoldable pub job_at : BatchRule → Entries → Result Values JobFault
job_at rule t = do
  keys rule t
  top ← head t
  found ← inner rule t
  lights ← each next_light [] found.light
  dyes ← each next_dye [] found.dye
  pairs ← each (next_pair (has_dye dyes)) [] found.pair
  bath ← if_there (batch_of dyes) found.batch
  Ok (record { head = top; light = lights; dye = dyes; pair = pairs; batch = bath })

-- the table of a TOML document in UTF-8
abbrev pub tree_of : List ℕ → Option Members
tree_of text = if is_utf8 text then parse_document text else None

-- the job that a text spells, or its first fault
unfoldable pub job_of : BatchRule → List ℕ → Result Values JobFault
job_of rule text = do
  members ← or_fault job_position NotToml (tree_of text)
  job_at rule (record { position = job_position; members = members })
