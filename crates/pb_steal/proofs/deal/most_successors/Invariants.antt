use Rattle.std.proofs.Common.{ℕ, ◌<◌, ◌≤◌, length}
use Rattle.pb_taskgraph.specs.Graphs.{after_of}
use Rattle.pb_steal.proofs.deal.most_successors.Given as goal

abbrev pub invariant-loop-task : goal.invariant-loop-task
invariant-loop-task g l = (t : ℕ) → t < l.task → length (after_of (g.W.Work.plan l.work).graph t) ≤ l.most
