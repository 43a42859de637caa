use Rattle.std.proofs.Common.{◌∙◌, ◌+◌, ◌<◌, ap, get_or, length, List, subst, sym}
use Rattle.pb_taskgraph.specs.Graphs.{GraphValue, TaskValue}
use Rattle.pb_locked.specs.Places.{HasPlaces}
use Rattle.pb_locked.proofs.PlaceLemmas.{cells-below, cells-few, places-more}
use Rattle.pb_locked.proofs.places.Places.new.Goals as goal

pub number_parts-requires-clause-inside : goal.number_parts-requires-clause-inside
number_parts-requires-clause-inside g c =
    let p = g.N.NamesWork.plan in
    let tasks = c.tasks-tasks.ensures.tasks ∙ ap (λ (h : GraphValue). h.tasks) c.requires.name in
    cells-below p.graph c.requires.plan.graph c.loop-task.task c.index-tasks-task.result (subst (λ (l : List TaskValue). c.loop-task.task < length l) tasks c.loop-task-test.true) (c.index-tasks-task.is ∙ ap (λ (l : List TaskValue). get_or l c.loop-task.task c.index-tasks-task.result) tasks)
    c.deref.result.now (c.deref.ensures.value ∙ ap (λ (t : TaskValue). t.parts) c.links.view_is) c.loop-task.places.items c.loop-task.invariant.room

pub number_parts-requires-clause-few : goal.number_parts-requires-clause-few
number_parts-requires-clause-few g c =
    let p = g.N.NamesWork.plan in
    let tasks = c.tasks-tasks.ensures.tasks ∙ ap (λ (h : GraphValue). h.tasks) c.requires.name in
    cells-few p.graph c.requires.plan.graph c.loop-task.task c.index-tasks-task.result (subst (λ (l : List TaskValue). c.loop-task.task < length l) tasks c.loop-task-test.true) (c.index-tasks-task.is ∙ ap (λ (l : List TaskValue). get_or l c.loop-task.task c.index-tasks-task.result) tasks)
    c.deref.result.now (c.deref.ensures.value ∙ ap (λ (t : TaskValue). t.parts) c.links.view_is)

pub loop-task-preserved : goal.loop-task-preserved
loop-task-preserved g c =
    let p = g.N.NamesWork.plan in
    let tasks = c.tasks-tasks.ensures.tasks ∙ ap (λ (h : GraphValue). h.tasks) c.requires.name in
    let more = places-more p.graph c.requires.plan.graph c.loop-task.task c.index-tasks-task.result (subst (λ (l : List TaskValue). c.loop-task.task < length l) tasks c.loop-task-test.true) (c.index-tasks-task.is ∙ ap (λ (l : List TaskValue). get_or l c.loop-task.task c.index-tasks-task.result) tasks)
    c.deref.result.now (c.deref.ensures.value ∙ ap (λ (t : TaskValue). t.parts) c.links.view_is) c.loop-task.places.items c.loop-task.counts.items c.number_parts.new.places.items c.number_parts.result c.loop-task.invariant c.number_parts.ensures.places c.number_parts.ensures.count in
    subst (λ l. HasPlaces p.graph (c.loop-task.task + 1) (record { places = c.number_parts.new.places.items; counts = l })) (sym c.in_ok-push.ensures.items) more
