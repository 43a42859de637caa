use Rattle.std.proofs.Common.{◌≡◌, ◌++◌, drop, map, slice_get}
use Rattle.pb_program.specs.Trees.{bare_transform}
use Rattle.pb_lines.specs.Lines.{segments_text}
use Rattle.pb_lines.proofs.segments.write_segments.Given as goal

abbrev pub invariant-loop-segment : goal.invariant-loop-segment
invariant-loop-segment l =
    let t = slice_get (map bare_transform l.program) l.t in
    l.text.items ++ segments_text t l.nodes (drop l.segment-index l.segments) ≡ l.fn.text.items ++ segments_text t l.nodes l.segments
