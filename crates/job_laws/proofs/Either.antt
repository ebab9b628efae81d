-- A job that is accepted by any rule for its batch is also accepted where a batch may be there or
-- not.
use Rattle.std.proofs.Common.{◌≡◌, Ok, refl}
use Rattle.std.specs.Prelude.{◌||◌, codes, not}
use Rattle.job_keys.specs.declared.fault.JobRule.TheVariants.{MissingKey, NotToml, NotVersion1}
use Rattle.job_file.specs.declared.top.BatchRule.{BatchRule}
use Rattle.job_file.specs.declared.top.BatchRule.TheVariants.{Either}
use Rattle.job_keys.specs.Arrays.{tables, tables_or_none}
use Rattle.job_keys.specs.Faults.{ensure, or_fault}
use Rattle.job_file.specs.Job.{job_at, job_of, job_position, tree_of}
use Rattle.job_keys.specs.Keys.{Entries, only_keys}
use Rattle.job_file.specs.Top.{Inner, has_key, head, inner, job_keys, keys, needs_batch, version_of}
use Rattle.job_laws.specs.Laws.{AcceptsEither, TableAcceptsEither}
use Rattle.job_laws.proofs.Steps.{bind_first, bind_other, then_ok, then_other}

keys_either : (rule : BatchRule) (t : Entries) → keys rule t ≡ Ok tt → keys Either t ≡ Ok tt
unfolding keys
keys_either rule t h =
    bind_other (or_fault t.position NotVersion1 (version_of t.members)) _ _ tt h (λ version e. then_other (only_keys job_keys t) (only_keys job_keys t) _ _ tt e (λ others. others) (λ batch. refl))

inner_either : (rule : BatchRule) (t : Entries) (found : Inner) → inner rule t ≡ Ok found → inner Either t ≡ Ok found
unfolding inner
inner_either rule t found h =
    bind_other (tables (codes "light") 1 2 t) _ _ found h
    (λ lights e. bind_other (tables (codes "dye") 1 12 t) _ _ found e
    (λ dyes k. bind_other (tables_or_none (codes "pair") 66 t) _ _ found k
    (λ pairs last. (then_ok (ensure t.position MissingKey (not (needs_batch rule) || has_key (codes "batch") t)) _ found last).1)))

pub table_accepts_either : TableAcceptsEither
unfolding job_at
table_accepts_either rule t v h =
    then_other (keys rule t) (keys Either t) _ _ v h (keys_either rule t)
    (λ rest. bind_other (head t) _ _ v rest (λ top e. bind_first (inner rule t) (inner Either t) _ v e (inner_either rule t)))

pub accepts_either : AcceptsEither
unfolding job_of
accepts_either rule text v h = bind_other (or_fault job_position NotToml (tree_of text)) _ _ v h (λ members. table_accepts_either rule _ v)
