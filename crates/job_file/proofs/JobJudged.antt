-- A job is read by its rules.
use Rattle.std.proofs.Common.{◌≡◌, ◌∙◌, ℕ, Bool, true, false, Option, Some, None, Result, Ok, Err, List, [], ◌∷◌, map, refl, ap, sym}
use Rattle.std.specs.Prelude.{◌||◌, not, is_some, codes}
use Rattle.std.specs.Option.{unwrap_or}
use Rattle.toml.specs.Data.{Data, Members, get_member, no_members}
use Rattle.job_keys.specs.declared.fault.JobFault.{JobFault}
use Rattle.job_keys.specs.declared.fault.JobRule.{JobRule}
use Rattle.job_keys.specs.declared.fault.JobRule.TheVariants.{MissingKey, NotToml, NotVersion1, UnknownKey}
use Rattle.job_keys.specs.declared.fault.Position.{Position}
use Rattle.job_file.specs.declared.top.BatchRule.{BatchRule}
use Rattle.job_keys.specs.Arrays.{table_if_any}
use Rattle.job_file.specs.Dye.{has_dye, next_dye}
use Rattle.job_keys.specs.Faults.{◌>>=◌, ◌>>◌, ensure, or_fault}
use Rattle.job_file.specs.Job.{job_at, job_of, job_position, tree_of}
use Rattle.job_keys.specs.KeyRules.{a_table, keys_rules, value_rules}
use Rattle.job_keys.specs.KeyValues.{table_at, tables_at}
use Rattle.job_keys.specs.Keys.{Entries, has_only}
use Rattle.job_file.specs.Laws.{AcceptsByRules, ReportsFirstBroken, rules_of, values_of}
use Rattle.job_keys.specs.Light.{next_light}
use Rattle.job_keys.specs.Pair.{next_pair}
use Rattle.job_file.specs.JobRules.{head_keys, head_value, job_rules, job_value, part_keys}
use Rattle.job_file.specs.PartRules.{dye_rules, dye_value}
use Rattle.job_keys.specs.PartRules.{light_rules, light_value, pair_rules, pair_value}
use Rattle.job_keys.specs.Rules.{Rule, rule_at}
use Rattle.job_file.specs.Top.{Inner, has_key, head, inner, job_keys, keys, needs_batch, takes_batch, version_of}
use Rattle.job_keys.proofs.Judged.{accepts, all_hold, done, each_read, ensure_is, first_broken, judge, refuses, then_done, then_next, then_read}
use Rattle.job_keys.proofs.KeysJudged.{file_is, name_is, table_if_any_is, tables_is, tables_or_none_is, whole_if_any_is, whole_or_is}
use Rattle.job_file.proofs.PartsJudged.{batch_if_any, dye_after}
use Rattle.job_keys.proofs.PartsJudged.{light_after, pair_after}

abbrev top_of : Members → Entries
top_of m = record { position = job_position; members = m }

-- ---- the keys

-- a value that must be there, and whose value does not matter
some_value : {A : Type 0} (position : Position) (rule : JobRule) (o : Option A) (rs : List Rule) (next : Result (Unit {0}) JobFault) → next ≡ judge rs tt → (or_fault position rule o >>= (λ _. next)) ≡ judge (rule_at position rule (is_some o) ∷ rs) tt
unfolding judge
some_value position rule None rs next h = refl
some_value position rule (Some x) rs next h = h

keys_are : (rule : BatchRule) (m : Members)
    → keys rule (top_of m)
    ≡ judge (rule_at job_position NotVersion1 (is_some (version_of m)) ∷ rule_at job_position UnknownKey (has_only job_keys m) ∷ rule_at job_position UnknownKey (takes_batch rule || not (is_some (get_member (codes "batch") m))) ∷ []) tt
unfolding keys
keys_are rule m =
    some_value job_position NotVersion1 (version_of m) _ _
    (then_next _ _ _ _ _ (ensure_is job_position UnknownKey (has_only job_keys m)) (ensure_is job_position UnknownKey (takes_batch rule || not (has_key (codes "batch") (top_of m)))))

-- ---- the texts and numbers

head_is : (m : Members) → head (top_of m) ≡ judge (keys_rules job_position head_keys m) (head_value m)
unfolding head keys_rules value_rules head_keys head_value
head_is m =
    let t = top_of m in
    then_read _ _ _ _ _ _ (file_is (codes "curves") t)
    (then_read _ _ _ _ _ _ (name_is (codes "substrate") t)
    (then_read _ _ _ _ _ _ (name_is (codes "standard") t)
    (then_read _ _ _ _ _ _ (whole_or_is (codes "load") 1 100000 1 t)
    (then_read _ _ _ _ _ _ (whole_or_is (codes "max_dyes") 1 12 12 t)
    (then_read _ _ _ _ _ _ (whole_or_is (codes "max_total") 1 240000 240000 t)
    (then_read _ _ _ _ _ _ (whole_if_any_is (codes "max_cost") 0 1000000000000000 t)
    (then_read _ _ _ _ _ _ (whole_or_is (codes "budget") 1 1000000 100000 t)
    (done _))))))))

-- ---- the parts

-- the batch's table, which must be there where it is needed
batch_found : (needed : Bool) (position : Position) (o : Option Data) (read : Result (Option Members) JobFault) (table : Option Members)
    → read ≡ judge (value_rules position false a_table o) table
    → (ensure position MissingKey (not needed || is_some o) >> read) ≡ judge (value_rules position needed a_table o) table
unfolding judge value_rules
batch_found true position None read table h = refl
batch_found true position (Some v) read table h = h
batch_found false position None read table h = h
batch_found false position (Some v) read table h = h

inner_value : Members → Inner
inner_value m = record { light = tables_at (codes "light") m; dye = tables_at (codes "dye") m; pair = tables_at (codes "pair") m; batch = table_at (codes "batch") m }

bind_after : {A B : Type 0} (a : Result (Unit {0}) JobFault) (b : Result A JobFault) (f : A → Result B JobFault) → (a >> (b >>= f)) ≡ ((a >> b) >>= f)
bind_after (Ok x) b f = refl
bind_after (Err fault) b f = refl

inner_is : (rule : BatchRule) (m : Members) → inner rule (top_of m) ≡ judge (keys_rules job_position (part_keys rule) m) (inner_value m)
unfolding inner keys_rules value_rules part_keys inner_value
inner_is rule m =
    let t = top_of m in
    let with_batch : Option Members → Result Inner JobFault = λ table. Ok (record { light = tables_at (codes "light") m; dye = tables_at (codes "dye") m; pair = tables_at (codes "pair") m; batch = table }) in
    then_read _ _ _ _ _ _ (tables_is (codes "light") 1 2 t)
    (then_read _ _ _ _ _ _ (tables_is (codes "dye") 1 12 t)
    (then_read _ _ _ _ _ _ (tables_or_none_is (codes "pair") 66 t)
    (bind_after (ensure job_position MissingKey (not (needs_batch rule) || has_key (codes "batch") t)) (table_if_any (codes "batch") t) with_batch
    ∙ then_read _ _ _ with_batch _ _ (batch_found (needs_batch rule) job_position (get_member (codes "batch") m) (table_if_any (codes "batch") t) (table_at (codes "batch") m) (table_if_any_is (codes "batch") t))
    (done _))))

-- ---- the whole

job_is : (rule : BatchRule) (m : Members) → job_at rule (top_of m) ≡ judge (job_rules rule m) (job_value m)
unfolding job_at job_rules job_value inner_value keys_rules value_rules head_keys part_keys
job_is rule m =
    let dyes = map dye_value (tables_at (codes "dye") m) in
    then_next _ _ _ _ _ (keys_are rule m)
    (then_read _ _ _ _ _ _ (head_is m)
    (then_read _ _ _ _ _ _ (inner_is rule m)
    (then_read _ _ _ _ _ _ (each_read next_light light_rules light_value light_after [] (tables_at (codes "light") m))
    (then_read _ _ _ _ _ _ (each_read next_dye dye_rules dye_value dye_after [] (tables_at (codes "dye") m))
    (then_read _ _ _ _ _ _ (each_read (next_pair (has_dye dyes)) (pair_rules (has_dye dyes)) pair_value (pair_after (has_dye dyes)) [] (tables_at (codes "pair") m))
    (then_done _ _ _ _ _ (batch_if_any dyes (table_at (codes "batch") m)) refl))))))

document_is : {B : Type 0} (o : Option Members) (f : Members → Result B JobFault) (rules : Members → List Rule) (value : Members → B) → ((m : Members) → f m ≡ judge (rules m) (value m))
    → (or_fault job_position NotToml o >>= f) ≡ judge (rule_at job_position NotToml (is_some o) ∷ rules (unwrap_or o no_members)) (value (unwrap_or o no_members))
unfolding judge
document_is None f rules value h = refl
document_is (Some m) f rules value h = h m

job_of_is : (rule : BatchRule) (text : List ℕ) → job_of rule text ≡ judge (rules_of rule text) (values_of text)
unfolding job_of rules_of values_of
job_of_is rule text = document_is (tree_of text) (λ m. job_at rule (top_of m)) (job_rules rule) job_value (job_is rule)

pub accepts_by_rules : AcceptsByRules
accepts_by_rules rule text job =
    let judged = job_of_is rule text in
    ((λ h. all_hold (rules_of rule text) (values_of text) job (sym judged ∙ h)), (λ h. judged ∙ accepts (rules_of rule text) (values_of text) h.0 ∙ ap Ok (sym h.1)))

pub reports_first_broken : ReportsFirstBroken
reports_first_broken rule text fault =
    let judged = job_of_is rule text in
    ((λ h. first_broken (rules_of rule text) (values_of text) fault (sym judged ∙ h)), (λ h. judged ∙ refuses (rules_of rule text) (values_of text) fault h))
