-- A light of a job.
use Rattle.std.specs.Prelude.{◌≡◌, ◌≤◌, ◌+◌, true, Result, Ok, List, [], ◌∷◌, length, codes}
use Rattle.toml.specs.Data.{Members}
use Rattle.job_keys.specs.declared.fault.JobFault.{JobFault}
use Rattle.job_keys.specs.declared.fault.Part.TheVariants.{Light}
use Rattle.job_keys.specs.declared.light.JobLight.{JobLight}
use Rattle.job_keys.specs.Faults.{◌>>=◌, ◌>>◌}
use Rattle.job_keys.specs.Keys.{Entries, file_text, only_keys, whole, whole_or}
use Rattle.job_keys.specs.Texts.{is_file_text}

-- its keys: the name of the file of weights, the tolerance in thousandths, and l and c in tenths,
-- 2:1 where they are absent
unfoldable pub light : Entries → Result JobLight JobFault
light t = do
  only_keys (codes "weights" ∷ codes "tolerance" ∷ codes "l10" ∷ codes "c10" ∷ []) t
  weights ← file_text (codes "weights") t
  tolerance ← whole (codes "tolerance") 0 100000 t
  l10 ← whole_or (codes "l10") 1 100 20 t
  c10 ← whole_or (codes "c10") 1 100 10 t
  Ok (record { weights = weights; tolerance = tolerance; l10 = l10; c10 = c10 })

-- the next light, after those in `before`
abbrev pub next_light : List JobLight → Members → Result JobLight JobFault
next_light before members = light (record { position = record { part = Light; item = length before + 1; sub = 0 }; members = members })

-- the ranges of a light
pub record IsLight (l : JobLight) : Type 0 where
  pub weights : is_file_text l.weights ≡ true
  pub tolerance : l.tolerance ≤ 100000
  pub some_l : 1 ≤ l.l10
  pub small_l : l.l10 ≤ 100
  pub some_c : 1 ≤ l.c10
  pub small_c : l.c10 ≤ 100
