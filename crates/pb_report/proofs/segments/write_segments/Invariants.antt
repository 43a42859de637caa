use Rattle.std.proofs.Common.{◌≡◌, ◌++◌, drop}
use Rattle.std.specs.List.{enumerate_from, flat_map}
use Rattle.pb_program.specs.Trees.{bare_transform}
use Rattle.pb_report.specs.Report.{segment_line}
use Rattle.pb_report.proofs.segments.write_segments.Given as goal

abbrev pub invariant-loop-segment : goal.invariant-loop-segment
invariant-loop-segment l =
    let line = segment_line (bare_transform l.transform) l.order in
    l.text.items ++ flat_map line (enumerate_from l.segment (drop l.segment l.nodes)) ≡ l.fn.text.items ++ flat_map line (enumerate_from 0 l.nodes)
