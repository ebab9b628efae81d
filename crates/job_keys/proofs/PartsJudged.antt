-- Lights and pairs are read by their rules.
use Rattle.std.proofs.Common.{◌≡◌, ◌++◌, ◌+◌, ℕ, Bool, List, length, map}
use Rattle.std.specs.Prelude.{codes}
use Rattle.std.proofs.lemmas.List.{length-map}
use Rattle.toml.specs.Data.{Members}
use Rattle.job_keys.specs.declared.fault.JobRule.TheVariants.{SamePair, UnknownDye, UnknownKey}
use Rattle.job_keys.specs.declared.fault.Position.{Position}
use Rattle.job_keys.specs.KeyRules.{keys_rules, table_rules, value_rules}
use Rattle.job_keys.specs.Keys.{Entries}
use Rattle.job_keys.specs.Light.{light, next_light}
use Rattle.job_keys.specs.Pair.{next_pair, pair}
use Rattle.job_keys.specs.PartRules.{light_keys, light_position, light_rules, light_value, pair_closing, pair_keys, pair_position, pair_rules, pair_value}
use Rattle.job_keys.proofs.Judged.{done, ensure_is, judge, then_next, then_read}
use Rattle.job_keys.proofs.KeysJudged.{file_is, name_is, whole_is, whole_or_is}

abbrev at : Position → Members → Entries
at position m = record { position = position; members = m }

light_at : (position : Position) (m : Members) → light (at position m) ≡ judge (table_rules position light_keys m) (light_value m)
unfolding light table_rules keys_rules light_keys light_value
light_at position m =
    let t = at position m in
    then_next _ _ _ _ _ (ensure_is position UnknownKey _)
    (then_read _ _ _ _ _ _ (file_is (codes "weights") t)
    (then_read _ _ _ _ _ _ (whole_is (codes "tolerance") 0 100000 t)
    (then_read _ _ _ _ _ _ (whole_or_is (codes "l10") 1 100 20 t)
    (then_read _ _ _ _ _ _ (whole_or_is (codes "c10") 1 100 10 t)
    (done _)))))

-- the next light, after those in `before`
pub light_after : (before : List Members) (m : Members) → next_light (map light_value before) m ≡ judge (light_rules before m) (light_value m)
unfolding light_rules
light_after before m = rw length-map (light_at (light_position (length before + 1)) m)

pair_at : (is_known : List ℕ → Bool) (number : ℕ) (m : Members)
    → pair is_known (at (pair_position number) m) ≡ judge (table_rules (pair_position number) pair_keys m ++ pair_closing (pair_position number) is_known (pair_value m)) (pair_value m)
unfolding pair table_rules keys_rules value_rules pair_keys pair_value
pair_at is_known number m =
    let position = pair_position number in
    let t = at position m in
    then_next _ _ _ _ _ (ensure_is position UnknownKey _)
    (then_read _ _ _ _ _ _ (name_is (codes "a") t)
    (then_read _ _ _ _ _ _ (name_is (codes "b") t)
    (then_next _ _ _ _ _ (ensure_is position UnknownDye _)
    (then_next _ _ _ _ _ (ensure_is position SamePair _)
    (done _)))))

pub pair_after : (is_known : List ℕ → Bool) (before : List Members) (m : Members) → next_pair is_known (map pair_value before) m ≡ judge (pair_rules is_known before m) (pair_value m)
unfolding pair_rules
pair_after is_known before m = rw length-map (pair_at is_known (length before + 1) m)
