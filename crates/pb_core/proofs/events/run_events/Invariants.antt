use Rattle.std.proofs.Common.{◌≡◌, take}
use Rattle.pb_core.specs.States.{first_state}
use Rattle.pb_core.specs.Events.{AllEnabled, all_happen}
use Rattle.pb_core.specs.Cores.{state_of}
use Rattle.pb_core.proofs.events.run_events.Given as goal

abbrev pub invariant-loop-at : goal.invariant-loop-at
invariant-loop-at g l = record {
  enabled : AllEnabled g.N.NamesWork.plan (first_state g.N.NamesWork.plan l.hands) (take l.at l.events);
  state : state_of g.N.NamesWork.plan l.core ≡ all_happen g.N.NamesWork.plan (first_state g.N.NamesWork.plan l.hands) (take l.at l.events);
}
