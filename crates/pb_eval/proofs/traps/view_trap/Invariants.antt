use Rattle.std.proofs.Common.{◌≡◌}
use Rattle.pb_model.specs.Equations.{first_trap}
use Rattle.pb_eval.specs.Traps.{rows_seen}
use Rattle.pb_eval.proofs.traps.view_trap.Given as goal

abbrev pub invariant-loop-y : goal.invariant-loop-y
invariant-loop-y g l = record {
  trap : first_trap (rows_seen g.N.NamesTurn.turn l.view l.y) ≡ first_trap (rows_seen g.N.NamesTurn.turn l.view 0);
  same_reference : l.port.reader.ghost_name ≡ l.initial.port.reader.ghost_name;
}
