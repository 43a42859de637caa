use Rattle.std.proofs.Common.{◌≡◌, Some, subst, sym}
use Rattle.pb_core.specs.States.{State}
use Rattle.pb_core.specs.Events.{all_happen}
use Rattle.pb_core.specs.Cores.{CoreValue, state_of}
use Rattle.pb_locked.specs.Boards.{FindsReady, IsBoard, taken_from}
use Rattle.pb_locked.specs.Ready.{HoldsReady, ReadyValue}
use Rattle.pb_locked.proofs.BoardLemmas.{take}
use Rattle.pb_locked.proofs.HeldLemmas.{found-least, taken-holds}
use Rattle.pb_locked.proofs.board.Board.take.Goals as goal

pub take_task-requires-clause-enabled : goal.take_task-requires-clause-enabled
take_task-requires-clause-enabled g c κs within =
    let p = g.N.NamesWork.plan in
    let s = state_of p c.self.inside.core in
    let found = found-least p s c.self.inside.ready c.self.invariant.1 c.in-Some.task c.take.new.self c.in-Some.ensures.tasks c.in-Some.ensures.least in
    (take p c.graph-graph.ensures.plan s c.self.invariant.0 c.args.hand c.in-Some.task found.0).enabled

pub invariant_of-self : goal.invariant_of-self
invariant_of-self g c =
    let p = g.N.NamesWork.plan in
    (c.self.invariant.0, subst (λ (v : ReadyValue). HoldsReady p (state_of p c.self.inside.core) v) (sym c.in-None.ensures.rest) c.self.invariant.1)

pub invariant_of-self-2 : goal.invariant_of-self-2
invariant_of-self-2 g c =
    let p = g.N.NamesWork.plan in
    let s = state_of p c.self.inside.core in
    let found = found-least p s c.self.inside.ready c.self.invariant.1 c.in-Some.task c.take.new.self c.in-Some.ensures.tasks c.in-Some.ensures.least in (
      subst (λ (x : State). IsBoard p x) (sym c.take_task.ensures) (take p c.graph-graph.ensures.plan s c.self.invariant.0 c.args.hand c.in-Some.task found.0).board,
      subst (λ (x : State). HoldsReady p x c.take.new.self) (sym c.take_task.ensures) (taken-holds p s c.self.inside.ready c.self.invariant.1 c.args.hand c.in-Some.task c.take.new.self c.in-Some.ensures.tasks c.take.ensures.room),
    )

pub take_task-requires-clause-task : goal.take_task-requires-clause-task
take_task-requires-clause-task g c κs within =
    let p = g.N.NamesWork.plan in
    let s = state_of p c.self.inside.core in
    (found-least p s c.self.inside.ready c.self.invariant.1 c.in-Some.task c.take.new.self c.in-Some.ensures.tasks c.in-Some.ensures.least).0.0

pub returns : goal.returns
returns g c =
    let p = g.N.NamesWork.plan in
    let s = state_of p c.self.inside.core in
    let found = found-least p s c.self.inside.ready c.self.invariant.1 c.in-Some.task c.take.new.self c.in-Some.ensures.tasks c.in-Some.ensures.least in
    subst (λ (v : CoreValue). FindsReady p (state_of p v) (Some c.in-Some.task) × (state_of p c.take_task.new.core ≡ all_happen p (state_of p v) (taken_from ((state_of p v).holder c.in-Some.task) c.args.hand c.in-Some.task)))
    c.self.view_is (found, c.take_task.ensures)
