use Rattle.std.proofs.Common.{◌≡◌}
use Rattle.std.specs.List.{range_with_len}
use Rattle.pb_taskgraph.specs.Serial.{IsWritten}
use Rattle.pb_taskgraph.proofs.serial.run_serial.Given as goal

abbrev pub ghosts-run_task : goal.ghosts-run_task
ghosts-run_task g a = record { plan = g.W.Work.plan a.work.now }

abbrev pub invariant-loop-task : goal.invariant-loop-task
invariant-loop-task g l = record {
  written : IsWritten (g.W.Work.plan l.work) l.task l.outcomes;
  fits : g.W.Work.fits l.work l.scratch;
  order : l.order.items ≡ range_with_len 0 l.task;
}
