use Rattle.std.proofs.Common.{◌≡◌, drop}
use Rattle.pb_prog.specs.Spelling.{with_commas, in_order}
use Rattle.pb_prog.specs.Writing.{puts, commas_from, expr_in, operand_in}
use Rattle.pb_prog.proofs.print.writer.Writer.+expression.Given as goal

abbrev pub invariant-operands-loop-next : goal.invariant-operands-loop-next
invariant-operands-loop-next l = puts l.self (in_order operand_in (drop l.next-index l.operands)) ≡ puts l.initial.self (in_order operand_in l.operands)

abbrev pub invariant-expressions-loop-next : goal.invariant-expressions-loop-next
invariant-expressions-loop-next l = puts l.self (commas_from l.is_first expr_in (drop l.next-index l.expressions)) ≡ puts l.initial.self (with_commas expr_in l.expressions)
