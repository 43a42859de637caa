use Rattle.std.proofs.Common.{◌≡◌, flat_map, take}
use Rattle.pb_summary.specs.Summary.{summary_text}
use Rattle.pb_top.proofs.finish.summaries.Given as goal

abbrev pub invariant-loop-matrix : goal.invariant-loop-matrix
invariant-loop-matrix l = l.text.items ≡ flat_map (summary_text l.name) (take l.matrix-index l.matrices)
