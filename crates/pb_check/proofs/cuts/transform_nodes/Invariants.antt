use Rattle.std.proofs.Common.{take}
use Rattle.pb_program.specs.Trees.{bare_transform}
use Rattle.pb_check.specs.Cuts.{AreNodesOf, made_matrices}
use Rattle.pb_check.proofs.cuts.transform_nodes.Given as goal

abbrev pub invariant-loop-k : goal.invariant-loop-k
invariant-loop-k l = AreNodesOf (bare_transform l.transform) (take l.k (made_matrices (bare_transform l.transform))) l.nodes.items
