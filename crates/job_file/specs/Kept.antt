-- What holds of the lights and of the dyes of every job.
use Rattle.std.specs.Prelude.{◌≤◌, List, All, length}
use Rattle.job_file.specs.declared.dye.JobDye.{JobDye}
use Rattle.job_keys.specs.declared.light.JobLight.{JobLight}
use Rattle.job_file.specs.Dye.{IsDye, NamesDiffer}
use Rattle.job_keys.specs.Light.{IsLight}

-- one or two lights, each in its ranges
pub record AreLights (lights : List JobLight) : Type 0 where
  pub some : 1 ≤ length lights
  pub few : length lights ≤ 2
  pub range : All IsLight lights

-- one to twelve dyes, each in its ranges, no two with the same name
pub record AreDyes (dyes : List JobDye) : Type 0 where
  pub some : 1 ≤ length dyes
  pub few : length dyes ≤ 12
  pub range : All IsDye dyes
  pub differ : NamesDiffer dyes
