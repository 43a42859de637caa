use Rattle.std.proofs.Common.{◌≡◌, drop}
use Rattle.pb_prog.specs.Spelling.{in_order}
use Rattle.pb_prog.specs.Writing.{puts, transform_in}
use Rattle.pb_prog.proofs.print.writer.Writer.transforms.Given as goal

abbrev pub invariant-loop-next : goal.invariant-loop-next
invariant-loop-next l = puts l.self (in_order transform_in (drop l.next-index l.transforms)) ≡ puts l.initial.self (in_order transform_in l.transforms)
