-- The rules of a whole job, and the values of its keys.
use Rattle.std.specs.Prelude.{◌++◌, ◌||◌, not, is_some, List, [], ◌∷◌, map, codes, option_map}
use Rattle.toml.specs.Data.{Members, get_member}
use Rattle.job_keys.specs.declared.fault.JobRule.TheVariants.{NotVersion1, UnknownKey}
use Rattle.job_file.specs.declared.top.BatchRule.{BatchRule}
use Rattle.job_file.specs.declared.top.Head.{Head}
use Rattle.job_file.specs.Job.{Values, job_position}
use Rattle.job_file.specs.Dye.{has_dye}
use Rattle.job_keys.specs.KeyRules.{Key, a_file, a_name, a_table, a_whole, if_any, in_turn, keys_rules, may, must, some_tables}
use Rattle.job_keys.specs.KeyValues.{table_at, tables_at, text_at, whole_at, whole_if_any_at}
use Rattle.job_keys.specs.Keys.{has_only}
use Rattle.job_file.specs.PartRules.{batch_rules, batch_value, dye_rules, dye_value}
use Rattle.job_keys.specs.PartRules.{light_rules, light_value, pair_rules, pair_value}
use Rattle.job_keys.specs.Rules.{Rule, rule_at}
use Rattle.job_file.specs.Top.{needs_batch, takes_batch, version_of}

-- the keys of the texts and numbers of a job, without `version`
unfoldable pub head_keys : List Key
head_keys =
    must (codes "curves") a_file
    ∷ must (codes "substrate") a_name
    ∷ must (codes "standard") a_name
    ∷ may (codes "load") (a_whole 1 100000)
    ∷ may (codes "max_dyes") (a_whole 1 12)
    ∷ may (codes "max_total") (a_whole 1 240000)
    ∷ may (codes "max_cost") (a_whole 0 1000000000000000)
    ∷ may (codes "budget") (a_whole 1 1000000)
    ∷ []

-- the keys of the parts of a job
unfoldable pub part_keys : BatchRule → List Key
part_keys rule =
    must (codes "light") (some_tables 1 2)
    ∷ must (codes "dye") (some_tables 1 12)
    ∷ may (codes "pair") (some_tables 0 66)
    ∷ record { name = codes "batch"; needed = needs_batch rule; kind = a_table }
    ∷ []

-- the defaults of absent keys: one kilogram, 12 dyes, 240,000 units, no ceiling of the cost and
-- 100,000 boxes
unfoldable pub head_value : Members → Head
head_value members = record {
  curves = text_at (codes "curves") members;
  substrate = text_at (codes "substrate") members;
  standard = text_at (codes "standard") members;
  load = whole_at (codes "load") 1 members;
  max_dyes = whole_at (codes "max_dyes") 12 members;
  max_total = whole_at (codes "max_total") 240000 members;
  max_cost = whole_if_any_at (codes "max_cost") members;
  budget = whole_at (codes "budget") 100000 members;
}

-- the values of a job
unfoldable pub job_value : Members → Values
job_value members = record {
  head = head_value members;
  light = map light_value (tables_at (codes "light") members);
  dye = map dye_value (tables_at (codes "dye") members);
  pair = map pair_value (tables_at (codes "pair") members);
  batch = option_map batch_value (table_at (codes "batch") members);
}

-- all keys but `version`
abbrev pub top_keys : BatchRule → List Key
top_keys rule = head_keys ++ part_keys rule

-- the version is 1, and there are no unknown keys (`batch` is a known key where the rule takes a
-- batch); then the rules of each key
abbrev pub top_rules : BatchRule → Members → List Rule
top_rules rule members =
    rule_at job_position NotVersion1 (is_some (version_of members))
    ∷ rule_at job_position UnknownKey (has_only (codes "version" ∷ map (λ k. k.name) (top_keys rule)) members)
    ∷ rule_at job_position UnknownKey (takes_batch rule || not (is_some (get_member (codes "batch") members)))
    ∷ keys_rules job_position (top_keys rule) members

-- the rules of a job: those of its table, of its lights, of its dyes, of its pairs and of its batch
unfoldable pub job_rules : BatchRule → Members → List Rule
job_rules rule members =
    let dyes = map dye_value (tables_at (codes "dye") members) in
    top_rules rule members
    ++ (in_turn light_rules [] (tables_at (codes "light") members)
    ++ (in_turn dye_rules [] (tables_at (codes "dye") members)
    ++ (in_turn (pair_rules (has_dye dyes)) [] (tables_at (codes "pair") members)
    ++ if_any (batch_rules dyes) (table_at (codes "batch") members))))
