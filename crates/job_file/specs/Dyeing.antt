-- A dyeing of a dye.
use Rattle.std.specs.Prelude.{◌≡◌, ◌≤◌, ◌+◌, ℕ, true, Result, Ok, List, [], ◌∷◌, length, codes}
use Rattle.spectral_tables.specs.Name.{is_name}
use Rattle.toml.specs.Data.{Members}
use Rattle.job_keys.specs.declared.fault.JobFault.{JobFault}
use Rattle.job_keys.specs.declared.fault.Part.TheVariants.{Dyeing}
use Rattle.job_file.specs.declared.dyeing.JobDyeing.{JobDyeing}
use Rattle.job_keys.specs.Faults.{◌>>=◌, ◌>>◌}
use Rattle.job_keys.specs.Keys.{Entries, name, only_keys, whole}

-- its keys: the units of dye on the cloth, and the name of its curve
unfoldable pub dyeing : Entries → Result JobDyeing JobFault
dyeing t = do
  only_keys (codes "units" ∷ codes "curve" ∷ []) t
  units ← whole (codes "units") 1 20000 t
  curve ← name (codes "curve") t
  Ok (record { units = units; curve = curve })

-- the next dyeing of the dye with this number, after those in `before`
abbrev pub next_dyeing : ℕ → List JobDyeing → Members → Result JobDyeing JobFault
next_dyeing dye before members = dyeing (record { position = record { part = Dyeing; item = dye; sub = length before + 1 }; members = members })

-- the ranges of a dyeing
pub record IsDyeing (d : JobDyeing) : Type 0 where
  pub some_units : 1 ≤ d.units
  pub small_units : d.units ≤ 20000
  pub curve : is_name d.curve ≡ true
