use Rattle.std.proofs.Common.{◌≡◌, eqb, length}
use Rattle.std.specs.Prelude.{filter}
use Rattle.std.specs.List.{range_with_len}
use Rattle.pb_taskgraph.specs.Graphs.{before_of}
use Rattle.pb_cells.proofs.first.ready_list.Given as goal

abbrev pub invariant-loop-task : goal.invariant-loop-task
invariant-loop-task g l = l.ready.items ≡ filter (λ t. eqb (length (before_of (g.W.Work.plan l.work).graph t)) 0) (range_with_len 0 l.task)
