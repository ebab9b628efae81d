-- A dye of a job, and its dyeings.
use Rattle.std.specs.Prelude.{◌≡◌, ◌≤◌, ◌*◌, ◌+◌, ◌^◌, ℕ, Bool, not, nat_le, true, false, Result, Ok, List, [], ◌∷◌, All, length, codes}
use Rattle.std.specs.List.{AllPairs}
use Rattle.std.specs.Str.{bytes_eq}
use Rattle.spectral_tables.specs.Name.{is_name}
use Rattle.toml.specs.Data.{Members}
use Rattle.job_keys.specs.declared.fault.JobFault.{JobFault}
use Rattle.job_keys.specs.declared.fault.JobRule.TheVariants.{DoubleDye, OutOfRange, TooWide}
use Rattle.job_keys.specs.declared.fault.Part.TheVariants.{Dye}
use Rattle.job_file.specs.declared.dye.JobDye.{JobDye}
use Rattle.job_keys.specs.Arrays.{each, tables}
use Rattle.job_file.specs.Dyeing.{IsDyeing, next_dyeing}
use Rattle.job_keys.specs.Faults.{◌>>=◌, ◌>>◌, ensure}
use Rattle.job_keys.specs.Names.{has_named}
use Rattle.job_keys.specs.Keys.{Entries, name, only_keys, whole, whole_or}

-- some dye has the name
abbrev pub has_dye : List JobDye → List ℕ → Bool
has_dye = has_named (λ d. d.name)

-- its keys: the name, the price of a unit and the fee, the units of a step, the least and the most
-- steps, and the dyeings. The least is not above the most, the most steps weigh at most 20,000
-- units, and no dye before it has its name
unfoldable pub dye : List JobDye → Entries → Result JobDye JobFault
dye before t = do
  only_keys (codes "name" ∷ codes "price" ∷ codes "fee" ∷ codes "step" ∷ codes "least" ∷ codes "most" ∷ codes "dyeing" ∷ []) t
  text ← name (codes "name") t
  price ← whole (codes "price") 0 1000000 t
  fee ← whole_or (codes "fee") 0 1000000000000 0 t
  step ← whole (codes "step") 1 20000 t
  least ← whole_or (codes "least") 1 4000 1 t
  most ← whole (codes "most") 1 4000 t
  members ← tables (codes "dyeing") 1 8 t
  dyeings ← each (next_dyeing t.position.item) [] members
  ensure t.position OutOfRange (nat_le least most)
  ensure t.position TooWide (nat_le (step * most) 20000)
  ensure t.position DoubleDye (not (has_dye before text))
  Ok (record { name = text; price = price; fee = fee; step = step; least = least; most = most; dyeing = record { items = dyeings } })

-- the next dye, after those in `before`
abbrev pub next_dye : List JobDye → Members → Result JobDye JobFault
next_dye before members = dye before (record { position = record { part = Dye; item = length before + 1; sub = 0 }; members = members })

-- the ranges of a dye
pub record IsDye (d : JobDye) : Type 0 where
  pub name : is_name d.name ≡ true
  pub price : d.price ≤ 1000000
  pub fee : d.fee ≤ 10 ^ 12
  pub some_step : 1 ≤ d.step
  pub small_step : d.step ≤ 20000
  pub some_least : 1 ≤ d.least
  pub ordered : d.least ≤ d.most
  pub small_most : d.most ≤ 4000
  pub narrow : d.step * d.most ≤ 20000
  pub some_dyeing : 1 ≤ length d.dyeing.items
  pub dyeings : All IsDyeing d.dyeing.items

-- no two dyes have the same name
abbrev pub NamesDiffer : List JobDye → Type 0
NamesDiffer dyes = AllPairs (λ a b. bytes_eq a.name b.name ≡ false) dyes
