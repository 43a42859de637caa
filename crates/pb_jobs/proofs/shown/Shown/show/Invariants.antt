use Rattle.std.proofs.Common.{◌≡◌}
use Rattle.pb_jobs.specs.Shown.{AreShown}
use Rattle.pb_jobs.proofs.shown.Shown.show.Given as goal

abbrev pub invariant-loop-k : goal.invariant-loop-k
invariant-loop-k l = record {
  shown : AreShown l.matrices l.x l.y l.reads l.windows l.k l.self.views.items;
  advances : l.self.advances ≡ l.initial.self.advances;
  cells : l.self.cells ≡ l.initial.self.cells;
}
