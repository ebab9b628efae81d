-- The laws of reading a job: which jobs are accepted, and which fault is reported of the others.
use Rattle.std.specs.Prelude.{◌≡◌, ◌↔◌, ℕ, is_some, Ok, Err, List, ◌∷◌}
use Rattle.std.specs.Option.{unwrap_or}
use Rattle.toml.specs.Data.{Members, no_members}
use Rattle.job_keys.specs.declared.fault.JobFault.{JobFault}
use Rattle.job_keys.specs.declared.fault.JobRule.TheVariants.{NotToml}
use Rattle.job_file.specs.declared.top.BatchRule.{BatchRule}
use Rattle.job_file.specs.Job.{Values, job_of, job_position, tree_of}
use Rattle.job_file.specs.JobRules.{job_rules, job_value}
use Rattle.job_keys.specs.Rules.{AllHold, IsFirstBroken, Rule, rule_at}

-- the table that a text spells, and an empty one where the text is no TOML document
abbrev pub table_of : List ℕ → Members
table_of text = unwrap_or (tree_of text) no_members

-- the rules of the job that a text spells: the text is TOML, and then those of its table
unfoldable pub rules_of : BatchRule → List ℕ → List Rule
rules_of rule text = rule_at job_position NotToml (is_some (tree_of text)) ∷ job_rules rule (table_of text)

-- the values of the keys of the job that a text spells
unfoldable pub values_of : List ℕ → Values
values_of text = job_value (table_of text)

-- A job is accepted exactly where every rule holds, and its values are then those of its keys.
abbrev pub AcceptsByRules : Type 0
AcceptsByRules = (rule : BatchRule) (text : List ℕ) (job : Values) → (job_of rule text ≡ Ok job) ↔ (AllHold (rules_of rule text) × (job ≡ values_of text))

-- A fault is reported exactly where a rule with that fault is broken and every rule before it
-- holds.
abbrev pub ReportsFirstBroken : Type 0
ReportsFirstBroken = (rule : BatchRule) (text : List ℕ) (fault : JobFault) → (job_of rule text ≡ Err fault) ↔ IsFirstBroken (rules_of rule text) fault
