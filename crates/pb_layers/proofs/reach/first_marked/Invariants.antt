use Rattle.std.proofs.Common.{◌≡◌, false, take}
use Rattle.std.specs.List.{All}
use Rattle.pb_layers.specs.Graphs.{marked}
use Rattle.pb_layers.proofs.reach.first_marked.Given as goal

abbrev pub invariant-loop-node : goal.invariant-loop-node
invariant-loop-node l = All (λ v. marked l.marks v ≡ false) (take l.node-index l.nodes)
