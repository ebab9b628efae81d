-- The result of reading a whole file within a limit.
use Rattle.std.specs.Prelude.{Bool, true, false, Result, Ok, Err}
use Rattle.shelf_io.specs.declared.whole_file.TakeFault.{TakeFault}
use Rattle.shelf_io.specs.declared.whole_file.TakeFault.TheVariants as fault

-- a read failed
abbrev pub is_fault : {T : Type 0} → Result T TakeFault → Bool
is_fault (Ok bytes) = false
is_fault (Err fault.Fault) = true
is_fault (Err fault.TooLong) = false
is_fault (Err fault.Memory) = false
