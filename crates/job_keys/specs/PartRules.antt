-- The rules of lights and of pairs, and the values of their keys.
use Rattle.std.specs.Prelude.{◌&&◌, ◌+◌, ◌++◌, ℕ, Bool, not, List, [], ◌∷◌, length, codes}
use Rattle.std.specs.Str.{bytes_eq}
use Rattle.toml.specs.Data.{Members}
use Rattle.job_keys.specs.declared.fault.JobRule.TheVariants.{SamePair, UnknownDye}
use Rattle.job_keys.specs.declared.fault.Part.TheVariants.{Light, Pair}
use Rattle.job_keys.specs.declared.fault.Position.{Position}
use Rattle.job_keys.specs.declared.light.JobLight.{JobLight}
use Rattle.job_keys.specs.declared.pair.JobPair.{JobPair}
use Rattle.job_keys.specs.KeyRules.{Key, a_file, a_name, a_whole, may, must, table_rules}
use Rattle.job_keys.specs.KeyValues.{text_at, whole_at}
use Rattle.job_keys.specs.Rules.{Rule, rule_at}

-- ---- a light

unfoldable pub light_keys : List Key
light_keys =
    must (codes "weights") a_file
    ∷ must (codes "tolerance") (a_whole 0 100000)
    ∷ may (codes "l10") (a_whole 1 100)
    ∷ may (codes "c10") (a_whole 1 100)
    ∷ []

-- l and c are 2:1 where they are absent
unfoldable pub light_value : Members → JobLight
light_value members = record {
  weights = text_at (codes "weights") members;
  tolerance = whole_at (codes "tolerance") 0 members;
  l10 = whole_at (codes "l10") 20 members;
  c10 = whole_at (codes "c10") 10 members;
}

abbrev pub light_position : ℕ → Position
light_position number = record { part = Light; item = number; sub = 0 }

-- the rules of the next light, after those in `before`
unfoldable pub light_rules : List Members → Members → List Rule
light_rules before members = table_rules (light_position (length before + 1)) light_keys members

-- ---- a pair

unfoldable pub pair_keys : List Key
pair_keys = must (codes "a") a_name ∷ must (codes "b") a_name ∷ []

unfoldable pub pair_value : Members → JobPair
pair_value members = record { a = text_at (codes "a") members; b = text_at (codes "b") members }

abbrev pub pair_position : ℕ → Position
pair_position number = record { part = Pair; item = number; sub = 0 }

-- the closing rules of a pair: both are dyes of the job, and they are different
abbrev pub pair_closing : Position → (List ℕ → Bool) → JobPair → List Rule
pair_closing position is_known p =
    rule_at position UnknownDye (is_known p.a && is_known p.b)
    ∷ rule_at position SamePair (not (bytes_eq p.a p.b))
    ∷ []

-- the rules of the next pair, after those in `before`
unfoldable pub pair_rules : (List ℕ → Bool) → List Members → Members → List Rule
pair_rules is_known before members =
    table_rules (pair_position (length before + 1)) pair_keys members ++ pair_closing (pair_position (length before + 1)) is_known (pair_value members)
