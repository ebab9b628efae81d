-- The numbers of a table.
use Rattle.std.specs.Prelude.{ℕ, ℤ, pos, negsuc, Bool, false, ◌&&◌, ◌==◌, nat_le, if◌then◌else◌, List, Option, Some, None, Result, Ok, Err}
use Rattle.dec_text.specs.Decimal.{decimal_of}
use Rattle.dec_text.specs.declared.fault.DecFault.{DecFault}

-- Was this number of nanometres read?
abbrev pub is_read : ℕ → Result ℤ DecFault → Bool
is_read nm (Ok (pos n)) = n == nm
is_read nm (Ok (negsuc n)) = false
is_read nm (Err e) = false

-- Does the field write this wavelength, in nanometres?
unfoldable pub is_wavelength : ℕ → List ℕ → Bool
is_wavelength nm field = is_read nm (decimal_of 0 field)

-- the number, if it lies in the range from low to high
abbrev pub natural_in : ℕ → ℕ → ℤ → Option ℕ
natural_in low high (pos n) = if nat_le low n && nat_le n high then Some n else None
natural_in low high (negsuc n) = None

-- the number that was read, if reading found no fault
abbrev pub number_read : Result ℤ DecFault → Option ℤ
number_read (Ok z) = Some z
number_read (Err e) = None
