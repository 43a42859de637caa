use Rattle.std.proofs.Common.{◌≡◌, drop}
use Rattle.pb_model.specs.Equations.{first_trap}
use Rattle.pb_eval.specs.Traps.{views_seen}
use Rattle.pb_eval.proofs.traps.trap_among.Given as goal

abbrev pub invariant-loop-view : goal.invariant-loop-view
invariant-loop-view g l = record {
  trap : first_trap (views_seen g.N.NamesTurn.turn (drop l.view-index l.views)) ≡ first_trap (views_seen g.N.NamesTurn.turn l.views);
  same_reference : l.port.reader.ghost_name ≡ l.initial.port.reader.ghost_name;
}
