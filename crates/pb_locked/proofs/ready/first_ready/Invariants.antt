use Rattle.std.proofs.Common.{◌≡◌, ◌<◌, length}
use Rattle.pb_taskgraph.specs.Graphs.{before_of}
use Rattle.pb_locked.specs.Ready.{Holds}
use Rattle.pb_locked.proofs.ready.first_ready.Given as goal

abbrev pub invariant-loop-task : goal.invariant-loop-task
invariant-loop-task l = Holds (λ t. (t < l.task) × (length (before_of l.graph t) ≡ 0)) (length l.graph.tasks) l.ready
