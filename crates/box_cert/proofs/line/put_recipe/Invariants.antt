use Rattle.std.proofs.Common.{◌≡◌, ◌+◌, ◌*◌, ◌≤◌, ◌++◌, take}
use Rattle.arrayvec.specs.ArrayVec.{array_vec_len}
use Rattle.box_cert.specs.LineTexts.{numbers_text}
use Rattle.box_cert.proofs.line.put_recipe.Given as goal

abbrev pub invariant-loop-i : goal.invariant-loop-i
invariant-loop-i l = record {
  text : l.into.items ≡ l.fn.into.items ++ numbers_text (take l.i l.fn.steps.items);
  short : array_vec_len l.into ≤ array_vec_len l.fn.into + 5 * l.i;
}
