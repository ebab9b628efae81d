-- What is printed is read back.
use Rattle.std.specs.Prelude.{◌≡◌, ℕ, ℤ, ◌^◌, ◌<◌, ◌≤◌, Ok, Some, decimal, unsigned_abs}
use Rattle.dec_text.specs.Decimal.{decimal_of, largest}
use Rattle.dec_text.specs.FixedPoint.{fixed_text}
use Rattle.dec_text.specs.Whole.{whole_number}

-- a number that is printed and read with the same number of decimals is read back, if reading
-- accepts its magnitude
abbrev pub ReadsBack : Type 0
ReadsBack = (decimals : ℕ) (number : ℤ) → unsigned_abs number ≤ largest → decimal_of decimals (fixed_text decimals number) ≡ Ok number

-- the digits of a number below 10^most are read back as that number
abbrev pub WholeReadsBack : Type 0
WholeReadsBack = (most number : ℕ) → 0 < most → most ≤ 9 → number < 10 ^ most → whole_number most (decimal number) ≡ Some number
