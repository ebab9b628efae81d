-- The table of a whole job.
use Rattle.std.specs.Prelude.{◌≡◌, ◌≤◌, ◌||◌, ◌^◌, ℕ, Bool, not, true, false, Option, IfSome, option_and_then, is_some, Result, Ok, List, [], ◌∷◌, codes}
use Rattle.spectral_tables.specs.Name.{is_name}
use Rattle.toml.specs.Data.{Members, as_integer, get_member}
use Rattle.job_keys.specs.declared.fault.JobFault.{JobFault}
use Rattle.job_keys.specs.declared.fault.JobRule.TheVariants.{MissingKey, NotVersion1, UnknownKey}
use Rattle.job_file.specs.declared.top.BatchRule.{BatchRule}
use Rattle.job_file.specs.declared.top.BatchRule.TheVariants.{Either, With, Without}
use Rattle.job_file.specs.declared.top.Head.{Head}
use Rattle.job_keys.specs.Arrays.{table_if_any, tables, tables_or_none}
use Rattle.job_keys.specs.Faults.{◌>>=◌, ◌>>◌, ensure, or_fault}
use Rattle.job_keys.specs.Keys.{Entries, file_text, name, natural_in, only_keys, whole_if_any, whole_or}
use Rattle.job_keys.specs.Texts.{is_file_text}

-- a batch may be in the job
abbrev pub takes_batch : BatchRule → Bool
takes_batch Without = false
takes_batch With = true
takes_batch Either = true

-- a batch must be in the job
abbrev pub needs_batch : BatchRule → Bool
needs_batch Without = false
needs_batch With = true
needs_batch Either = false

abbrev pub has_key : List ℕ → Entries → Bool
has_key key t = is_some (get_member key t.members)

-- the version, if it is the whole number 1
abbrev pub version_of : Members → Option ℕ
version_of members = option_and_then (λ value. option_and_then (λ z. natural_in 1 1 z) (as_integer value)) (get_member (codes "version") members)

-- the keys of a job, in the order in which they are judged
abbrev pub job_keys : List (List ℕ)
job_keys =
    codes "version" ∷ codes "curves" ∷ codes "substrate" ∷ codes "standard" ∷ codes "load" ∷ codes "max_dyes" ∷ codes "max_total" ∷ codes "max_cost"
    ∷ codes "budget" ∷ codes "light" ∷ codes "dye" ∷ codes "pair" ∷ codes "batch" ∷ []

-- the texts and numbers of a job: the file of curves, the names of the substrate's and the
-- standard's curve, the kilograms of cloth, the most dyes and units of a recipe, the ceiling of its
-- cost, and the budget of boxes
unfoldable pub head : Entries → Result Head JobFault
head t = do
  curves ← file_text (codes "curves") t
  substrate ← name (codes "substrate") t
  standard ← name (codes "standard") t
  load ← whole_or (codes "load") 1 100000 1 t
  max_dyes ← whole_or (codes "max_dyes") 1 12 12 t
  max_total ← whole_or (codes "max_total") 1 240000 240000 t
  max_cost ← whole_if_any (codes "max_cost") 0 1000000000000000 t
  budget ← whole_or (codes "budget") 1 1000000 100000 t
  Ok (record { curves = curves; substrate = substrate; standard = standard; load = load; max_dyes = max_dyes; max_total = max_total; max_cost = max_cost; budget = budget })

-- the tables in a job
pub record Inner : Type 0 where
  pub light : List Members
  pub dye : List Members
  pub pair : List Members
  pub batch : Option Members

-- one or two lights, one to twelve dyes, up to 66 pairs, and a batch, which must be there where the
-- rule needs one
unfoldable pub inner : BatchRule → Entries → Result Inner JobFault
inner rule t = do
  lights ← tables (codes "light") 1 2 t
  dyes ← tables (codes "dye") 1 12 t
  pairs ← tables_or_none (codes "pair") 66 t
  ensure t.position MissingKey (not (needs_batch rule) || has_key (codes "batch") t)
  found ← table_if_any (codes "batch") t
  Ok (record { light = lights; dye = dyes; pair = pairs; batch = found })

-- a check that the version is 1, and that there are no unknown keys; `batch` is a known key where
-- the rule takes a batch
unfoldable pub keys : BatchRule → Entries → Result (Unit {0}) JobFault
keys rule t = do
  version ← or_fault t.position NotVersion1 (version_of t.members)
  only_keys job_keys t
  ensure t.position UnknownKey (takes_batch rule || not (has_key (codes "batch") t))

-- the ranges of the texts and numbers of a job
pub record IsHead (h : Head) : Type 0 where
  pub curves : is_file_text h.curves ≡ true
  pub substrate : is_name h.substrate ≡ true
  pub standard : is_name h.standard ≡ true
  pub some_load : 1 ≤ h.load
  pub small_load : h.load ≤ 100000
  pub some_dyes : 1 ≤ h.max_dyes
  pub few_dyes : h.max_dyes ≤ 12
  pub some_total : 1 ≤ h.max_total
  pub small_total : h.max_total ≤ 240000
  pub small_cost : IfSome h.max_cost (λ c. c ≤ 10 ^ 15)
  pub some_budget : 1 ≤ h.budget
  pub small_budget : h.budget ≤ 1000000
