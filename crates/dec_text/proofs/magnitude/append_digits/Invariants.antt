use Rattle.std.proofs.Common.{◌≡◌, ◌+◌, ◌≤◌, min, drop}
use Rattle.dec_text.specs.Decimal.{digits_from, largest}
use Rattle.dec_text.proofs.magnitude.append_digits.Given as goal

abbrev pub invariant-loop-digit : goal.invariant-loop-digit
invariant-loop-digit l = record {
  small : l.number ≤ largest + 1;
  same : min (largest + 1) (digits_from l.number (drop l.digit-index l.part)) ≡ min (largest + 1) (digits_from l.fn.before l.part);
}
