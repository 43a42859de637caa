use Rattle.std.proofs.Common.{◌≡◌, drop}
use Rattle.pb_prog.specs.Spelling.{sum_tokens}
use Rattle.pb_prog.specs.Writing.{puts, terms_from}
use Rattle.pb_prog.proofs.print.writer.Writer.sum.Given as goal

abbrev pub invariant-loop-next : goal.invariant-loop-next
invariant-loop-next l = puts l.self (terms_from l.is_first (drop l.next-index l.terms)) ≡ puts l.initial.self (sum_tokens l.terms)
