-- The batch that is to be corrected.
use Rattle.std.specs.Prelude.{◌≡◌, ◌==◌, ◌&&◌, ℕ, Bool, nat_le, true, Result, Ok, List, [], ◌∷◌, length, codes}
use Rattle.spectral_tables.specs.Name.{is_name}
use Rattle.toml.specs.Data.{Members}
use Rattle.job_keys.specs.declared.fault.JobFault.{JobFault}
use Rattle.job_keys.specs.declared.fault.JobRule.TheVariants.{BatchLength, OutOfRange}
use Rattle.job_keys.specs.declared.fault.Part.TheVariants.{Batch}
use Rattle.job_keys.specs.declared.fault.Position.{Position}
use Rattle.job_file.specs.declared.batch.JobBatch.{JobBatch}
use Rattle.job_file.specs.declared.dye.JobDye.{JobDye}
use Rattle.job_keys.specs.Arrays.{wholes}
use Rattle.job_keys.specs.Faults.{◌>>=◌, ◌>>◌, ensure}
use Rattle.job_keys.specs.Keys.{Entries, name, only_keys}

-- no dye has a number of steps above its `most`; a number without a dye passes, and so does a dye
-- without a number
abbrev pub are_within : List JobDye → List ℕ → Bool
are_within [] steps = true
are_within (d ∷ dyes) [] = true
are_within (d ∷ dyes) (n ∷ steps) = nat_le n d.most && are_within dyes steps

-- its keys: the name of its curve, and the steps of each dye that are in the bath
unfoldable pub batch : List JobDye → Entries → Result JobBatch JobFault
batch dyes t = do
  only_keys (codes "curve" ∷ codes "steps" ∷ []) t
  curve ← name (codes "curve") t
  steps ← wholes (codes "steps") 1 12 0 4000 t
  ensure t.position BatchLength (length steps == length dyes)
  ensure t.position OutOfRange (are_within dyes steps)
  Ok (record { curve = curve; steps = record { items = steps } })

abbrev pub batch_position : Position
batch_position = record { part = Batch; item = 0; sub = 0 }

abbrev pub batch_of : List JobDye → Members → Result JobBatch JobFault
batch_of dyes members = batch dyes (record { position = batch_position; members = members })

-- what a batch holds: a curve's name, and for each dye a number of steps up to its `most`
pub record IsBatch (dyes : List JobDye) (b : JobBatch) : Type 0 where
  pub curve : is_name b.curve ≡ true
  pub count : length b.steps.items ≡ length dyes
  pub steps_in_range : are_within dyes b.steps.items ≡ true
