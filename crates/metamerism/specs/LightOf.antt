-- How a light is made.
use Rattle.std.specs.Prelude.{◌≡◌, ℕ, List}
use Rattle.interval_specs.specs.Ends.{Ends}
use Rattle.fix_bounds.specs.declared.scale.Scale.{Ghosts}
use Rattle.cielab_bounds.specs.declared.difference.Difference as difference
use Rattle.cielab_bounds.specs.declared.difference.Formula as formula
use Rattle.cielab_bounds.specs.Lab.{lab_ends}
use Rattle.spectral_tables.specs.WeightTable.{WeightTable}
use Rattle.metamerism.specs.Difference.{colour_under}
use Rattle.metamerism.specs.declared.one_light.Light.{Light}

-- a light has these weights, this tolerance and this rule, and keeps the colour of the standard
pub record IsLightOf {S D K : Type 0} {g : Ghosts S} {h : difference.Ghosts D S K} {f : formula.Ghosts D}
    (light : Light S D K g h f) (weights : WeightTable) (tolerance : ℕ) (rule : D) (standard : List Ends) : Type 0 where
  pub weights_are : light.weights ≡ weights
  pub tolerance_is : light.tolerance ≡ tolerance
  pub rule_is : light.rule ≡ rule
  pub standard_is : lab_ends light.standard ≡ colour_under weights g.unit standard
