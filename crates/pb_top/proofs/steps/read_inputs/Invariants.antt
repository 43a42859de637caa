use Rattle.std.specs.List.{All}
use Rattle.pb_unroll.specs.Handed.{IsWhole}
use Rattle.pb_top.specs.Runs.{ReadsInput}
use Rattle.pb_top.specs.Working.{files_of}
use Rattle.pb_top.proofs.StepLemmas.{EachAfter}
use Rattle.pb_top.proofs.steps.read_inputs.Given as goal

abbrev pub invariant-loop-i : goal.invariant-loop-i
invariant-loop-i l = EachAfter ReadsInput (files_of l.files l.texts) l.i l.found.items × All IsWhole l.found.items
