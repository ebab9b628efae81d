-- The bytes read from the files of a job, as the code keeps them.
use Rattle.std.specs.Prelude.{◌≡◌, ◌≤◌, ◌+◌, ℕ, List, All, IfSome, Option, length}
use Rattle.std.specs.Global.{Vec}
use Rattle.spectral_tables.specs.declared.records.TheConstants.{TABLE_LIMIT}

-- bytes that were kept of a file are within the limit of a table
abbrev pub IsShort : Option (Vec ℕ) → Type 0
IsShort bytes_read = IfSome bytes_read (λ bytes. length bytes.items ≤ TABLE_LIMIT)

-- an entry for the curve file, and one for the weights file of each light
pub record FitsFiles (lights : ℕ) (bytes_read : List (Option (Vec ℕ))) : Type 0 where
  pub count : length bytes_read ≡ 1 + lights
  pub short : All IsShort bytes_read
