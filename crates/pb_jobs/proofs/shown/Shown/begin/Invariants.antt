use Rattle.std.proofs.Common.{length}
use Rattle.pb_jobs.specs.Advances.{AreAdvances, AreShaped}
use Rattle.pb_jobs.specs.Shown.{AreShown}
use Rattle.pb_walk.specs.Stretches.{place_on}
use Rattle.pb_jobs.proofs.shown.Shown.begin.Given as goal

abbrev pub invariant-loop-k : goal.invariant-loop-k
invariant-loop-k l = record {
  advances : AreAdvances l.matrices l.stretch l.reads l.windows l.k l.self.advances.items;
  shaped : AreShaped l.self.advances.items l.self.views.items;
  shown : AreShown l.matrices (place_on l.stretch 0).x (place_on l.stretch 0).y l.reads l.windows (length l.reads) l.self.views.items;
}
