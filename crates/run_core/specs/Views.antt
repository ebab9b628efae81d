-- What the values of the code stand for.
use Rattle.std.specs.Global.{Vec}
use Rattle.std.specs.Prelude.{ℕ, List, Option, option_map}
use Rattle.run_core.specs.Reading as reading
use Rattle.run_core.specs.declared.due_files.DueFile.{DueFile}

-- the bytes that were read from a file, or None where there were too many
abbrev pub bytes_view : Option (Vec ℕ) → Option (List ℕ)
bytes_view bytes_read = option_map (λ bytes. bytes.items) bytes_read

-- a file that is due
abbrev pub due_view : DueFile → reading.DueFile
due_view file = record { name = file.name.now; limit = file.limit }
