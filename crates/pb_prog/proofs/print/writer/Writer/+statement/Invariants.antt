use Rattle.std.proofs.Common.{◌≡◌, drop}
use Rattle.pb_prog.specs.Spelling.{in_order}
use Rattle.pb_prog.specs.Writing.{puts, stmt_in}
use Rattle.pb_prog.proofs.print.writer.Writer.+statement.Given as goal

abbrev pub invariant-statements-loop-next : goal.invariant-statements-loop-next
invariant-statements-loop-next l = puts l.self (in_order stmt_in (drop l.next-index l.statements)) ≡ puts l.initial.self (in_order stmt_in l.statements)
