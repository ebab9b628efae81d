use Rattle.std.proofs.Common.{◌≤◌, length, arith, sym, ◌∙◌}
use Rattle.dec_text.proofs.WholeFacts.{IsExact, exact, chosen, not_empty}
use Rattle.dec_text.proofs.whole.read_whole.Goals as goal

number : (c : goal.After-append_digits) → IsExact c.append_digits.result c.args.most c.args.text.now
number c = exact _ c.args.most c.args.text.now c.requires c.if-most-text.false (sym c.are_digits.ensures ∙ c.if-not-are_digits.false) c.append_digits.ensures

some : (c : goal.After-append_digits) → 1 ≤ length c.args.text.now
some c = not_empty (length c.args.text.now) (sym c.if-is_empty.ensures)

pub overflow_cast-result : goal.overflow_cast-result
overflow_cast-result c = omega (arith, (number c).below)

pub returns-clause-is : goal.returns-clause-is
returns-clause-is c = chosen _ c.args.most c.args.text.now (number c) (some c) c.if-most-text.false (sym c.are_digits.ensures ∙ c.if-not-are_digits.false)

pub returns-clause-small : goal.returns-clause-small
returns-clause-small c = (number c).small
