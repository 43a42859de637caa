use Rattle.std.proofs.Common.{◌≡◌}
use Rattle.pb_model.specs.Equations.{first_trap}
use Rattle.pb_eval.specs.Traps.{outcomes_from}
use Rattle.pb_eval.proofs.traps.row_trap.Given as goal

abbrev pub invariant-loop-x : goal.invariant-loop-x
invariant-loop-x g l = record {
  trap : first_trap (outcomes_from g.N.NamesTurn.turn l.view l.y l.x) ≡ first_trap (outcomes_from g.N.NamesTurn.turn l.view l.y 0);
  same_reference : l.port.reader.ghost_name ≡ l.initial.port.reader.ghost_name;
}
