use Rattle.std.proofs.Common.{◌≡◌}
use Rattle.pb_jobs.specs.Advances.{AreShaped}
use Rattle.pb_jobs.proofs.AdvanceLemmas.{AreHalfShown}
use Rattle.pb_jobs.proofs.shown.Shown.go_on.Given as goal

abbrev pub invariant-loop-k : goal.invariant-loop-k
invariant-loop-k l = record {
  views : AreHalfShown l.matrices l.reads l.windows l.stretch l.i l.k l.self.views.items;
  shaped : AreShaped l.self.advances.items l.self.views.items;
  advances : l.self.advances ≡ l.initial.self.advances;
}
