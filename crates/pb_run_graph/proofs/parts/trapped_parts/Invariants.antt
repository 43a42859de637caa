use Rattle.std.proofs.Common.{take}
use Rattle.std.specs.List.{AllZip}
use Rattle.pb_taskgraph.specs.declared.task.Part.{Part}
use Rattle.pb_views.specs.declared.seat.Seat.{Seat}
use Rattle.pb_run_plan.specs.RunTasks.{IsPartOf, trapped_piece}
use Rattle.pb_run_graph.specs.Ready.{failed_of}
use Rattle.pb_run_graph.proofs.parts.trapped_parts.Given as goal

abbrev pub invariant-loop-seat : goal.invariant-loop-seat
invariant-loop-seat l = AllZip (λ (s : Seat) (part : Part). IsPartOf (trapped_piece (failed_of l.failed) s) part) (take l.seat-index l.failed.seats) l.found.items
