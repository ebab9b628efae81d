-- Dyes and the batch of a job are read by their rules.
use Rattle.std.proofs.Common.{◌≡◌, ◌++◌, ◌+◌, ℕ, Option, Some, None, Ok, List, [], length, map, refl}
use Rattle.std.specs.Prelude.{codes, option_map}
use Rattle.std.proofs.lemmas.List.{length-map}
use Rattle.toml.specs.Data.{Members}
use Rattle.job_file.specs.declared.dye.JobDye.{JobDye}
use Rattle.job_keys.specs.declared.fault.JobRule.TheVariants.{BatchLength, DoubleDye, OutOfRange, TooWide, UnknownKey}
use Rattle.job_keys.specs.declared.fault.Position.{Position}
use Rattle.job_keys.specs.Arrays.{if_there}
use Rattle.job_file.specs.Batch.{batch, batch_of, batch_position}
use Rattle.job_file.specs.Dye.{dye, next_dye}
use Rattle.job_file.specs.Dyeing.{dyeing, next_dyeing}
use Rattle.job_keys.specs.KeyRules.{if_any, in_turn, keys_rules, table_rules, value_rules}
use Rattle.job_keys.specs.KeyValues.{tables_at}
use Rattle.job_keys.specs.Keys.{Entries}
use Rattle.job_file.specs.PartRules.{batch_keys, batch_rules, batch_value, dye_closing, dye_keys, dye_position, dye_rules, dye_value, dyeing_keys, dyeing_position, dyeing_rules, dyeing_value}
use Rattle.job_keys.proofs.Judged.{done, each_read, ensure_is, judge, then_done, then_next, then_read}
use Rattle.job_keys.proofs.KeysJudged.{name_is, tables_is, whole_is, whole_or_is, wholes_are}

abbrev at : Position → Members → Entries
at position m = record { position = position; members = m }

dyeing_at : (position : Position) (m : Members) → dyeing (at position m) ≡ judge (table_rules position dyeing_keys m) (dyeing_value m)
unfolding dyeing table_rules keys_rules dyeing_keys dyeing_value
dyeing_at position m =
    let t = at position m in
    then_next _ _ _ _ _ (ensure_is position UnknownKey _)
    (then_read _ _ _ _ _ _ (whole_is (codes "units") 1 20000 t)
    (then_read _ _ _ _ _ _ (name_is (codes "curve") t)
    (done _)))

dyeing_after : (number : ℕ) (before : List Members) (m : Members) → next_dyeing number (map dyeing_value before) m ≡ judge (dyeing_rules number before m) (dyeing_value m)
unfolding dyeing_rules
dyeing_after number before m = rw length-map (dyeing_at (dyeing_position number (length before + 1)) m)

dye_at : (before : List JobDye) (number : ℕ) (m : Members)
    → dye before (at (dye_position number) m)
    ≡ judge (table_rules (dye_position number) dye_keys m ++ in_turn (dyeing_rules number) [] (tables_at (codes "dyeing") m) ++ dye_closing (dye_position number) before (dye_value m)) (dye_value m)
unfolding dye table_rules keys_rules value_rules dye_keys dye_value
dye_at before number m =
    let position = dye_position number in
    let t = at position m in
    then_next _ _ _ _ _ (ensure_is position UnknownKey _)
    (then_read _ _ _ _ _ _ (name_is (codes "name") t)
    (then_read _ _ _ _ _ _ (whole_is (codes "price") 0 1000000 t)
    (then_read _ _ _ _ _ _ (whole_or_is (codes "fee") 0 1000000000000 0 t)
    (then_read _ _ _ _ _ _ (whole_is (codes "step") 1 20000 t)
    (then_read _ _ _ _ _ _ (whole_or_is (codes "least") 1 4000 1 t)
    (then_read _ _ _ _ _ _ (whole_is (codes "most") 1 4000 t)
    (then_read _ _ _ _ _ _ (tables_is (codes "dyeing") 1 8 t)
    (then_read _ _ _ _ _ _ (each_read (next_dyeing number) (dyeing_rules number) dyeing_value (dyeing_after number) [] (tables_at (codes "dyeing") m))
    (then_next _ _ _ _ _ (ensure_is position OutOfRange _)
    (then_next _ _ _ _ _ (ensure_is position TooWide _)
    (then_next _ _ _ _ _ (ensure_is position DoubleDye _)
    (done _))))))))))))

pub dye_after : (before : List Members) (m : Members) → next_dye (map dye_value before) m ≡ judge (dye_rules before m) (dye_value m)
unfolding dye_rules
dye_after before m = rw length-map (dye_at (map dye_value before) (length before + 1) m)

batch_is : (dyes : List JobDye) (m : Members) → batch_of dyes m ≡ judge (batch_rules dyes m) (batch_value m)
unfolding batch batch_rules table_rules keys_rules value_rules batch_keys batch_value
batch_is dyes m =
    let t = at batch_position m in
    then_next _ _ _ _ _ (ensure_is batch_position UnknownKey _)
    (then_read _ _ _ _ _ _ (name_is (codes "curve") t)
    (then_read _ _ _ _ _ _ (wholes_are (codes "steps") 1 12 0 4000 t)
    (then_next _ _ _ _ _ (ensure_is batch_position BatchLength _)
    (then_next _ _ _ _ _ (ensure_is batch_position OutOfRange _)
    (done _)))))

pub batch_if_any : (dyes : List JobDye) (o : Option Members) → if_there (batch_of dyes) o ≡ judge (if_any (batch_rules dyes) o) (option_map batch_value o)
batch_if_any dyes None = done None
batch_if_any dyes (Some m) = then_done (batch_rules dyes m) (batch_of dyes m) (λ b. Ok (Some b)) (batch_value m) (Some (batch_value m)) (batch_is dyes m) refl
