use Rattle.std.proofs.Common.{sym, subst}
use Rattle.pb_taskgraph.specs.Plans.{Plan}
use Rattle.pb_taskgraph.specs.Serial.{SerialValue, serial_turn}
use Rattle.pb_taskgraph.specs.Turns.{Begins}
use Rattle.pb_core.proofs.LearnLemmas.{learn-begins, learn-done}
use Rattle.pb_core.proofs.learned.run_over.Goals as goal

pub run-requires-clause-begins : goal.run-requires-clause-begins
run-requires-clause-begins g c =
    let port : SerialValue = record { task = c.args.task; written = 0; outcomes = c.args.outcomes.items } in
    subst (λ (p : Plan). Begins p c.args.task (serial_turn g.N.NamesWork.plan port)) (sym c.requires.name) (learn-begins g.N.NamesWork.plan c.requires.plan c.args.task c.args.outcomes.items c.requires.can)

pub returns-clause-has : goal.returns-clause-has
returns-clause-has g c =
    learn-done g.N.NamesWork.plan c.requires.plan c.args.task c.args.outcomes.items c.requires.can c.run.new.port c.into_outcomes.result.items c.run.ensures.written c.into_outcomes.ensures.outcomes c.into_outcomes.ensures.room
