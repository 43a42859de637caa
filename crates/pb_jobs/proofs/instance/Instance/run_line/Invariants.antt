use Rattle.std.proofs.Common.{◌≡◌}
use Rattle.pb_taskgraph.specs.Turns.{after_some}
use Rattle.pb_jobs.proofs.OwnLemmas.{IsAlong}
use Rattle.pb_jobs.proofs.instance.Instance.run_line.Given as goal

abbrev pub invariant-loop-i : goal.invariant-loop-i
invariant-loop-i g l = record {
  now : g.C.CellReader.turn l.port ≡ after_some l.i (g.C.CellReader.turn l.fn.port);
  along : IsAlong l.self l.stretch l.reads l.windows l.fn.scratch l.scratch l.i;
}
