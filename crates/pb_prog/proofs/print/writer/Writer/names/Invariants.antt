use Rattle.std.proofs.Common.{◌≡◌, drop}
use Rattle.pb_prog.specs.Spelling.{with_commas, name_tokens}
use Rattle.pb_prog.specs.Writing.{puts, commas_from}
use Rattle.pb_prog.proofs.print.writer.Writer.names.Given as goal

abbrev pub invariant-loop-next : goal.invariant-loop-next
invariant-loop-next l = puts l.self (commas_from l.is_first name_tokens (drop l.next-index l.names)) ≡ puts l.initial.self (with_commas name_tokens l.names)
