use Rattle.std.proofs.Common.{◌≡◌, ◌∙◌, ap, arith, false, get_or, length, List, ◌<◌, refl, subst, sym, true}
use Rattle.std.proofs.lemmas.Bool.Decides.{nat_tests}
use Rattle.pb_taskgraph.specs.Graphs.{GraphValue, TaskValue}
use Rattle.pb_taskgraph.proofs.GraphLemmas.{after-at, cells-at}
use Rattle.pb_core.specs.States.{State}
use Rattle.pb_core.specs.Cores.{CoreValue, state_of}
use Rattle.pb_core.specs.Events.{all_happen}
use Rattle.pb_locked.specs.Boards.{HasBegun, IsBoard, completed_by}
use Rattle.pb_locked.proofs.BoardLemmas.{complete-board}
use Rattle.pb_locked.proofs.HeldLemmas.{complete-adds, complete-holds}
use Rattle.pb_locked.proofs.CompleteLemmas.{at-begun, begun-at, past-begun}
use Rattle.pb_locked.proofs.board.Board.complete.Goals as goal

pub returns-in-None : goal.returns-in-None
returns-in-None g c =
    let p = g.N.NamesWork.plan in
    let tasks = ap length (c.tasks.ensures.tasks ∙ ap (λ (h : GraphValue). h.tasks) c.graph-graph.ensures.graph) in
    (past-begun p c.graph-graph.ensures.plan _ c.args.self.now c.self.view_is c.self.invariant.0 c.args.hand c.args.task (omega (arith, tasks, c.in-None.ensures.lookup.3)), refl)

pub returns-then-not-has_begun : goal.returns-then-not-has_begun
returns-then-not-has_begun g c =
    let p = g.N.NamesWork.plan in
    (λ begun. let wrong : false ≡ true = sym c.if-not-has_begun.true ∙ c.has_begun.ensures.1 (begun-at p c.self.inside.core c.args.task c.progress.result c.progress.ensures c.args.hand (subst (λ (v : CoreValue). HasBegun (state_of p v) c.args.hand c.args.task) (sym c.self.view_is) begun)) in cc, refl)

pub complete_task-requires-clause-begun : goal.complete_task-requires-clause-begun
complete_task-requires-clause-begun g c κs within =
    let p = g.N.NamesWork.plan in
    at-begun p c.self.inside.core c.args.task c.progress.result c.progress.ensures c.args.hand (c.has_begun.ensures.0 c.if-not-has_begun.false)

pub complete_task-requires-clause-cells : goal.complete_task-requires-clause-cells
complete_task-requires-clause-cells g c κs within =
    let p = g.N.NamesWork.plan in
    let tasks = c.tasks.ensures.tasks ∙ ap (λ (h : GraphValue). h.tasks) c.graph-graph.ensures.graph in
    let below : c.args.task < length c.tasks.result.now = (let h = c.in-Some.ensures.lookup in grind (arith, nat_tests)) in
    cells-at p.graph c.args.task c.in-Some.links.now (subst (λ (l : List TaskValue). c.args.task < length l) tasks below) (c.in-Some.ensures.lookup.1 ∙ ap (λ (l : List TaskValue). get_or l c.args.task c.in-Some.links.now) tasks)

pub complete_task-requires-clause-after : goal.complete_task-requires-clause-after
complete_task-requires-clause-after g c κs within =
    let p = g.N.NamesWork.plan in
    let tasks = c.tasks.ensures.tasks ∙ ap (λ (h : GraphValue). h.tasks) c.graph-graph.ensures.graph in
    let below : c.args.task < length c.tasks.result.now = (let h = c.in-Some.ensures.lookup in grind (arith, nat_tests)) in
    after-at p.graph c.args.task c.in-Some.links.now (subst (λ (l : List TaskValue). c.args.task < length l) tasks below) (c.in-Some.ensures.lookup.1 ∙ ap (λ (l : List TaskValue). get_or l c.args.task c.in-Some.links.now) tasks)

pub add_ready-requires-after_bounds : goal.add_ready-requires-after_bounds
add_ready-requires-after_bounds g c κs within =
    let p = g.N.NamesWork.plan in
    let begun = at-begun p c.self.inside.core c.args.task c.progress.result c.progress.ensures c.args.hand (c.has_begun.ensures.0 c.if-not-has_begun.false) in
    let tasks = c.tasks.ensures.tasks ∙ ap (λ (h : GraphValue). h.tasks) c.graph-graph.ensures.graph in
    let below : c.args.task < length c.tasks.result.now = (let h = c.in-Some.ensures.lookup in grind (arith, nat_tests)) in
    let after = after-at p.graph c.args.task c.in-Some.links.now (subst (λ (l : List TaskValue). c.args.task < length l) tasks below) (c.in-Some.ensures.lookup.1 ∙ ap (λ (l : List TaskValue). get_or l c.args.task c.in-Some.links.now) tasks) in
    complete-adds p c.graph-graph.ensures.plan (state_of p c.self.inside.core) c.self.invariant.0 c.args.hand c.args.task begun c.self.inside.ready c.self.invariant.1 c.deref.result.now
    (after ∙ sym (c.deref.ensures.value ∙ ap (λ (t : TaskValue). t.after) c.links.view_is))

pub invariant_of-self : goal.invariant_of-self
invariant_of-self g c =
    let p = g.N.NamesWork.plan in
    let begun = at-begun p c.self.inside.core c.args.task c.progress.result c.progress.ensures c.args.hand (c.has_begun.ensures.0 c.if-not-has_begun.false) in
    let tasks = c.tasks.ensures.tasks ∙ ap (λ (h : GraphValue). h.tasks) c.graph-graph.ensures.graph in
    let below : c.args.task < length c.tasks.result.now = (let h = c.in-Some.ensures.lookup in grind (arith, nat_tests)) in
    let after = after-at p.graph c.args.task c.in-Some.links.now (subst (λ (l : List TaskValue). c.args.task < length l) tasks below) (c.in-Some.ensures.lookup.1 ∙ ap (λ (l : List TaskValue). get_or l c.args.task c.in-Some.links.now) tasks) in (
      subst (λ (s : State). IsBoard p s) (sym c.complete_task.ensures) (complete-board p c.graph-graph.ensures.plan (state_of p c.self.inside.core) c.self.invariant.0 c.args.hand c.args.task begun),
      complete-holds p c.graph-graph.ensures.plan (state_of p c.self.inside.core) c.self.invariant.0 c.args.hand c.args.task begun c.self.inside.ready c.self.invariant.1 c.deref.result.now
          (after ∙ sym (c.deref.ensures.value ∙ ap (λ (t : TaskValue). t.after) c.links.view_is)) (state_of p c.complete_task.new.core) c.complete_task.ensures c.add_ready.new.ready c.add_ready.ensures,
    )

pub returns : goal.returns
returns g c =
    let p = g.N.NamesWork.plan in
    let begun = at-begun p c.self.inside.core c.args.task c.progress.result c.progress.ensures c.args.hand (c.has_begun.ensures.0 c.if-not-has_begun.false) in (
      subst (λ (v : CoreValue). HasBegun (state_of p v) c.args.hand c.args.task) c.self.view_is begun,
      c.complete_task.ensures ∙ ap (λ (v : CoreValue). all_happen p (state_of p v) (completed_by p c.args.hand c.args.task)) c.self.view_is,
    )
