use Rattle.std.proofs.Common.{◌≡◌, ◌<◌, length}
use Rattle.std.specs.Prelude.{IfSome, IsTrue}
use Rattle.pb_statements.specs.Stored.{IsBlank}
use Rattle.pb_eval.specs.Terms.{StandFor}
use Rattle.pb_taskgraph.specs.Turns.{after_some}
use Rattle.pb_walk.specs.Stretches.{place_on}
use Rattle.pb_jobs.specs.Advances.{AreAdvances, AreShaped}
use Rattle.pb_jobs.specs.Rooms.{SameRoom}
use Rattle.pb_jobs.specs.Shown.{AreShown}
use Rattle.pb_jobs.proofs.instance.Instance.run_stretch.Given as goal

abbrev pub invariant-loop-i : goal.invariant-loop-i
invariant-loop-i g l = record {
  now : g.C.CellReader.turn l.port ≡ after_some l.i (g.C.CellReader.turn l.fn.port);
  room : SameRoom l.fn.scratch.body l.scratch.body;
  blank : IfSome l.formula (λ e. IsBlank l.scratch.body);
  shown : l.i < l.stretch.count → AreShown l.matrices (place_on l.stretch l.i).x (place_on l.stretch l.i).y l.reads l.windows (length l.reads) l.scratch.shown.views.items;
  advances : IsTrue l.moves → AreAdvances l.matrices l.stretch l.reads l.windows (length l.reads) l.scratch.shown.advances.items;
  shaped : IsTrue l.moves → AreShaped l.scratch.shown.advances.items l.scratch.shown.views.items;
  terms : IfSome l.formula (λ e. StandFor e.now l.scratch.terms);
}
