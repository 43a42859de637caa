use Rattle.std.proofs.Common.{◌≡◌, ◌++◌, drop}
use Rattle.pb_prog.specs.FormText.{variables_text}
use Rattle.pb_prog.proofs.form.write_variables.Given as goal

abbrev pub invariant-loop-i : goal.invariant-loop-i
invariant-loop-i l = l.text.items ++ variables_text l.form l.i (drop l.i l.names) ≡ l.initial.text.items ++ variables_text l.form 0 l.names
