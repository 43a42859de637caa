use Rattle.std.proofs.Common.{◌≡◌, drop}
use Rattle.pb_prog.specs.Spelling.{in_order}
use Rattle.pb_prog.specs.Writing.{puts, rule_in}
use Rattle.pb_prog.proofs.print.writer.Writer.rules.Given as goal

abbrev pub invariant-loop-next : goal.invariant-loop-next
invariant-loop-next l = puts l.self (in_order rule_in (drop l.next-index l.rules)) ≡ puts l.initial.self (in_order rule_in l.rules)
