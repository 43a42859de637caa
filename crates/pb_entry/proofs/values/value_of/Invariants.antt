use Rattle.std.proofs.Common.{take}
use Rattle.std.specs.List.{All, zip}
use Rattle.pb_entry.specs.Fitting.{Lacks}
use Rattle.pb_entry.proofs.values.value_of.Given as goal

abbrev pub invariant-loop-number : goal.invariant-loop-number
invariant-loop-number l = All (Lacks l.size) (take l.number (zip l.matrices l.inputs))
