use Rattle.std.proofs.Common.{◌≡◌, ◌+◌, ◌++◌}
use Rattle.arrayvec.specs.ArrayVec.{array_vec_len}
use Rattle.dec_text.specs.FixedPoint.{last_digits}
use Rattle.dec_text.proofs.fixed.put_last_digits.Given as goal

abbrev pub invariant-loop-left : goal.invariant-loop-left
invariant-loop-left g l = record {
  len : array_vec_len l.into + l.left ≡ array_vec_len l.fn.into + l.count;
  text : l.into.items ++ last_digits l.left l.number ≡ l.fn.into.items ++ last_digits l.count l.number;
}
