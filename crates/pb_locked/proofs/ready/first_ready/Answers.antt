use Rattle.std.proofs.Common.{◌≡◌, ◌∙◌, ◌<◌, ◌+◌, ap, arith, get_or, length, List, subst, sym}
use Rattle.pb_taskgraph.specs.Graphs.{TaskValue, before_of}
use Rattle.pb_locked.specs.Ready.{Holds, ReadyValue}
use Rattle.pb_locked.proofs.ReadyLemmas.{first-kept, first-more, first-room, holds-none, holds-same, is-bound, is-free}
use Rattle.pb_locked.proofs.ready.first_ready.Goals.{then-is_empty, else-is_empty}
use Rattle.pb_locked.proofs.ready.first_ready.Goals as goal

pub loop-task-init : goal.loop-task-init
loop-task-init c = holds-none _ _ c.in_ok-ready.ready (λ t one. omega (arith, one.0)) (ap (λ (v : ReadyValue). v.tasks) c.in_ok-ready.ensures) (omega (arith, ap (λ (v : ReadyValue). v.room) c.in_ok-ready.ensures, ap (λ (l : List TaskValue). length l) c.tasks-tasks.ensures.tasks))

pub add-requires : goal.add-requires
add-requires c = first-room c.args.graph.now c.loop-task.task (length c.args.graph.now.tasks) c.loop-task.ready c.loop-task.invariant (omega (arith, c.loop-task-test.true, ap (λ (l : List TaskValue). length l) c.tasks-tasks.ensures.tasks))

pub loop-task-preserved : goal.loop-task-preserved
loop-task-preserved c =
    let g = c.args.graph.now in
    let k = c.loop-task.task in
    let below = subst (λ (l : List TaskValue). k < length l) c.tasks-tasks.ensures.tasks c.loop-task-test.true in
    let at = c.index-tasks-task.is ∙ ap (λ (l : List TaskValue). get_or l k c.index-tasks-task.result) c.tasks-tasks.ensures.tasks in
    let same = ap (λ (t : TaskValue). t.before) c.links.view_is in
    elim c.if-is_empty.branch [
      | then-is_empty w ↦
          subst (λ (v : ReadyValue). Holds (λ t. (t < k + 1) × (length (before_of g t) ≡ 0)) (length g.tasks) v) (sym w.ready-is)
          (first-more g k (length g.tasks) c.loop-task.ready c.loop-task.invariant w.add.new.self (is-free g k c.index-tasks-task.result below at c.links.inside.before.items same c.links.inside.before.len (omega (arith, c.links.inside.before.ok.0)) c.is_empty.result c.is_empty.ensures w.if-is_empty.true) w.add.ensures.tasks w.add.ensures.room)
      | else-is_empty w ↦
          subst (λ (v : ReadyValue). Holds (λ t. (t < k + 1) × (length (before_of g t) ≡ 0)) (length g.tasks) v) (sym w.ready-is)
          (first-kept g k (length g.tasks) c.loop-task.ready c.loop-task.invariant (is-bound g k c.index-tasks-task.result below at c.links.inside.before.items same c.links.inside.before.len (omega (arith, c.links.inside.before.ok.0)) c.is_empty.result c.is_empty.ensures w.if-is_empty.false))
    ]

pub returns : goal.returns
returns c =
    let g = c.args.graph.now in
    holds-same (λ t. (t < c.loop-task.task) × (length (before_of g t) ≡ 0)) (length g.tasks) c.loop-task.ready c.loop-task.invariant (λ t. (t < length g.tasks) × (length (before_of g t) ≡ 0))
    (λ t. (let tasks = ap (λ (l : List TaskValue). length l) c.tasks-tasks.ensures.tasks in
    (λ one. (omega (arith, one.0, tasks, c.loop-task.auto.task-end), one.1), λ one. (omega (arith, one.0, tasks, c.loop-task-test.false), one.1))))
