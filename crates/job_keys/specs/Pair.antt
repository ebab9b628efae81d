-- A pair of dyes that may not be used together. What is a dye of the job is told by a test on names.
use Rattle.std.specs.Prelude.{◌≡◌, ◌&&◌, ◌+◌, ℕ, Bool, not, true, false, Result, Ok, List, [], ◌∷◌, length, codes}
use Rattle.std.specs.Str.{bytes_eq}
use Rattle.toml.specs.Data.{Members}
use Rattle.job_keys.specs.declared.fault.JobFault.{JobFault}
use Rattle.job_keys.specs.declared.fault.JobRule.TheVariants.{SamePair, UnknownDye}
use Rattle.job_keys.specs.declared.fault.Part.TheVariants.{Pair}
use Rattle.job_keys.specs.declared.pair.JobPair.{JobPair}
use Rattle.job_keys.specs.Faults.{◌>>=◌, ◌>>◌, ensure}
use Rattle.job_keys.specs.Keys.{Entries, name, only_keys}

-- its keys: the names of two different dyes of the job
unfoldable pub pair : (List ℕ → Bool) → Entries → Result JobPair JobFault
pair is_known t = do
  only_keys (codes "a" ∷ codes "b" ∷ []) t
  a ← name (codes "a") t
  b ← name (codes "b") t
  ensure t.position UnknownDye (is_known a && is_known b)
  ensure t.position SamePair (not (bytes_eq a b))
  Ok (record { a = a; b = b })

-- the next pair, after those in `before`
abbrev pub next_pair : (List ℕ → Bool) → List JobPair → Members → Result JobPair JobFault
next_pair is_known before members = pair is_known (record { position = record { part = Pair; item = length before + 1; sub = 0 }; members = members })

-- a pair names two different dyes of the job
pub record IsPair (is_known : List ℕ → Bool) (p : JobPair) : Type 0 where
  pub first : is_known p.a ≡ true
  pub second : is_known p.b ≡ true
  pub different : bytes_eq p.a p.b ≡ false
