use Rattle.std.proofs.Common.{◌≡◌, ◌++◌, drop, map}
use Rattle.pb_program.specs.Trees.{bare_transform}
use Rattle.pb_report.specs.Report.{label_of}
use Rattle.pb_report.proofs.edges.labels.Given as goal

abbrev pub invariant-loop-node : goal.invariant-loop-node
invariant-loop-node l =
    let of = label_of (bare_transform l.transform) in
    l.labels.items ++ map of (drop l.node-index l.nodes) ≡ map of l.nodes
