use Rattle.std.proofs.Common.{sym, subst}
use Rattle.pb_taskgraph.specs.Plans.{Plan}
use Rattle.pb_taskgraph.specs.Turns.{Begins}
use Rattle.pb_taskgraph.specs.Serial.{SerialValue, serial_turn}
use Rattle.pb_taskgraph.proofs.SerialLemmas.{serial-begins, serial-done}
use Rattle.pb_taskgraph.proofs.serial.run_task.Goals as goal

pub run-requires-clause-begins : goal.run-requires-clause-begins
run-requires-clause-begins g c =
    let port : SerialValue = record { task = c.args.task; written = 0; outcomes = c.args.outcomes } in
    subst (λ (p : Plan). Begins p c.args.task (serial_turn g.N.NamesWork.plan port)) (sym c.requires.name) (serial-begins g.N.NamesWork.plan c.requires.plan c.args.task c.args.outcomes c.requires.written)

pub returns-clause-written : goal.returns-clause-written
returns-clause-written g c =
    serial-done g.N.NamesWork.plan c.requires.plan c.args.task c.args.outcomes c.requires.written c.requires.task c.run.new.port c.into_outcomes.result c.run.ensures.written c.into_outcomes.ensures.outcomes c.into_outcomes.ensures.size
