-- The rules of the dyes and of the batch of a job, and the values of their keys.
use Rattle.std.specs.Prelude.{◌+◌, ◌*◌, ◌++◌, ◌==◌, ℕ, not, nat_le, List, [], ◌∷◌, length, map, codes}
use Rattle.toml.specs.Data.{Members}
use Rattle.job_file.specs.declared.batch.JobBatch.{JobBatch}
use Rattle.job_file.specs.declared.dye.JobDye.{JobDye}
use Rattle.job_file.specs.declared.dyeing.JobDyeing.{JobDyeing}
use Rattle.job_keys.specs.declared.fault.JobRule.TheVariants.{BatchLength, DoubleDye, OutOfRange, TooWide}
use Rattle.job_keys.specs.declared.fault.Part.TheVariants.{Dye, Dyeing}
use Rattle.job_keys.specs.declared.fault.Position.{Position}
use Rattle.job_file.specs.Batch.{are_within, batch_position}
use Rattle.job_file.specs.Dye.{has_dye}
use Rattle.job_keys.specs.KeyRules.{Key, a_name, a_whole, in_turn, may, must, some_tables, some_wholes, table_rules}
use Rattle.job_keys.specs.KeyValues.{tables_at, text_at, whole_at, wholes_at}
use Rattle.job_keys.specs.Rules.{Rule, rule_at}

-- ---- a dyeing

unfoldable pub dyeing_keys : List Key
dyeing_keys = must (codes "units") (a_whole 1 20000) ∷ must (codes "curve") a_name ∷ []

unfoldable pub dyeing_value : Members → JobDyeing
dyeing_value members = record { units = whole_at (codes "units") 0 members; curve = text_at (codes "curve") members }

abbrev pub dyeing_position : ℕ → ℕ → Position
dyeing_position dye number = record { part = Dyeing; item = dye; sub = number }

-- the rules of the next dyeing of the dye with this number, after those in `before`
unfoldable pub dyeing_rules : ℕ → List Members → Members → List Rule
dyeing_rules dye before members = table_rules (dyeing_position dye (length before + 1)) dyeing_keys members

-- ---- a dye

unfoldable pub dye_keys : List Key
dye_keys =
    must (codes "name") a_name
    ∷ must (codes "price") (a_whole 0 1000000)
    ∷ may (codes "fee") (a_whole 0 1000000000000)
    ∷ must (codes "step") (a_whole 1 20000)
    ∷ may (codes "least") (a_whole 1 4000)
    ∷ must (codes "most") (a_whole 1 4000)
    ∷ must (codes "dyeing") (some_tables 1 8)
    ∷ []

-- the defaults of absent keys: no fee, and a least number of one step
unfoldable pub dye_value : Members → JobDye
dye_value members = record {
  name = text_at (codes "name") members;
  price = whole_at (codes "price") 0 members;
  fee = whole_at (codes "fee") 0 members;
  step = whole_at (codes "step") 0 members;
  least = whole_at (codes "least") 1 members;
  most = whole_at (codes "most") 0 members;
  dyeing = record { items = map dyeing_value (tables_at (codes "dyeing") members) };
}

abbrev pub dye_position : ℕ → Position
dye_position number = record { part = Dye; item = number; sub = 0 }

-- the closing rules of the next dye, after those in `before`: the least is not above the most, the
-- most steps weigh at most 20,000 units, and no dye before it has its name
abbrev pub dye_closing : Position → List JobDye → JobDye → List Rule
dye_closing position before d =
    rule_at position OutOfRange (nat_le d.least d.most)
    ∷ rule_at position TooWide (nat_le (d.step * d.most) 20000)
    ∷ rule_at position DoubleDye (not (has_dye before d.name))
    ∷ []

-- the rules of the next dye, after those in `before`: those of its keys, those of its dyeings, and
-- the closing rules
unfoldable pub dye_rules : List Members → Members → List Rule
dye_rules before members =
    table_rules (dye_position (length before + 1)) dye_keys members
    ++ in_turn (dyeing_rules (length before + 1)) [] (tables_at (codes "dyeing") members)
    ++ dye_closing (dye_position (length before + 1)) (map dye_value before) (dye_value members)

-- ---- the batch

unfoldable pub batch_keys : List Key
batch_keys = must (codes "curve") a_name ∷ must (codes "steps") (some_wholes 1 12 0 4000) ∷ []

unfoldable pub batch_value : Members → JobBatch
batch_value members = record { curve = text_at (codes "curve") members; steps = record { items = wholes_at (codes "steps") members } }

-- the closing rules of a batch: one number of steps for each dye, which is at most the `most` of
-- the dye
abbrev pub batch_closing : List JobDye → JobBatch → List Rule
batch_closing dyes b =
    rule_at batch_position BatchLength (length b.steps.items == length dyes)
    ∷ rule_at batch_position OutOfRange (are_within dyes b.steps.items)
    ∷ []

unfoldable pub batch_rules : List JobDye → Members → List Rule
batch_rules dyes members = table_rules batch_position batch_keys members ++ batch_closing dyes (batch_value members)
