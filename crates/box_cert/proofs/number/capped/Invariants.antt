use Rattle.std.proofs.Common.{◌≡◌, ◌+◌, ◌≤◌, min, drop}
use Rattle.dec_text.specs.Decimal.{digits_from, largest}
use Rattle.box_cert.proofs.number.capped.Given as goal

abbrev pub invariant-loop-digit : goal.invariant-loop-digit
invariant-loop-digit l = record {
  small : l.number ≤ largest + 1;
  same : min (largest + 1) (digits_from l.number (drop l.digit-index l.word)) ≡ min (largest + 1) (digits_from 0 l.fn.word);
}
