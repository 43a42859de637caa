use Rattle.std.proofs.Common.{◌≡◌, ◌≤◌, ◌++◌, length}
use Rattle.pb_prog.specs.Canonical.{indentation}
use Rattle.pb_prog.proofs.print.writer.write_indentation.Given as goal

abbrev pub invariant-loop : goal.invariant-loop
invariant-loop l =
    (l.text.items ≡ l.initial.text.items ++ indentation l.counter) × (length l.initial.text.items ≤ length l.text.items)
