-- The laws of the jobs that are accepted.
use Rattle.std.specs.Prelude.{◌≡◌, ◌≤◌, ◌==◌, ℕ, false, Ok, List, All, codes}
use Rattle.std.specs.List.{ends_with}
use Rattle.job_file.specs.declared.top.BatchRule.{BatchRule}
use Rattle.job_file.specs.declared.top.BatchRule.TheVariants.{Either}
use Rattle.job_file.specs.Job.{Values, job_at, job_of}
use Rattle.job_keys.specs.Keys.{Entries}

-- A text that is accepted as a job by at least one rule for its batch is also accepted, with the
-- same values, where a batch may be there or not.
abbrev pub AcceptsEither : Type 0
AcceptsEither = (rule : BatchRule) (text : List ℕ) (v : Values) → job_of rule text ≡ Ok v → job_of Either text ≡ Ok v

-- The same holds of the table of a job.
abbrev pub TableAcceptsEither : Type 0
TableAcceptsEither = (rule : BatchRule) (t : Entries) (v : Values) → job_at rule t ≡ Ok v → job_at Either t ≡ Ok v

-- the name does not end with `.cert`
abbrev pub IsNoCert : List ℕ → Type 0
IsNoCert name = ends_with ◌==◌ name (codes ".cert") ≡ false

-- The names of a job's curve file and of the weight files of its lights do not end with `.cert`.
abbrev pub FilesAreNoCerts : Type 0
FilesAreNoCerts =
    (rule : BatchRule) (text : List ℕ) (v : Values) → job_of rule text ≡ Ok v → IsNoCert v.head.curves × All (λ l. IsNoCert l.weights) v.light

-- The budget of a job is 1 to 1,000,000 boxes.
abbrev pub BudgetFits : Type 0
BudgetFits = (rule : BatchRule) (text : List ℕ) (v : Values) → job_of rule text ≡ Ok v → (1 ≤ v.head.budget) × (v.head.budget ≤ 1000000)
