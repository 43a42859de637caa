use Rattle.std.proofs.Common.{◌∙◌, ap, subst, arith}
use Rattle.pb_taskgraph.specs.Graphs.{GraphValue}
use Rattle.pb_taskgraph.specs.Owners.{HasOwners}
use Rattle.pb_taskgraph.proofs.TableLemmas.{cells-inside, table-more}
use Rattle.pb_taskgraph.proofs.graph.TaskGraph.new.Goals as goal

pub fill_task-requires : goal.fill_task-requires
fill_task-requires c =
    let g : GraphValue = record { inputs = c.args.inputs; cells = c.args.cells; tasks = c.args.tasks.items } in
    cells-inside g c.requires.partition c.loop-task.task c.index.result.now (omega (arith, c.args.tasks.ok.0)) c.index.ensures c.deref.result.now (c.deref.ensures.value ∙ ap (λ t. t.parts) c.behind-tasks.view_is) c.loop-task.owners.items c.loop-task.invariant

pub loop-task-preserved : goal.loop-task-preserved
loop-task-preserved c =
    let g : GraphValue = record { inputs = c.args.inputs; cells = c.args.cells; tasks = c.args.tasks.items } in
    table-more g c.requires.partition c.loop-task.task c.index.result.now (omega (arith, c.args.tasks.ok.0)) c.index.ensures c.deref.result.now (c.deref.ensures.value ∙ ap (λ t. t.parts) c.behind-tasks.view_is) c.loop-task.owners.items c.loop-task.invariant c.fill_task.new.owners.items c.fill_task.ensures

pub invariant_of-result : goal.invariant_of-result
invariant_of-result c =
    let g : GraphValue = record { inputs = c.args.inputs; cells = c.args.cells; tasks = c.args.tasks.items } in
    record { graph = c.requires; table = subst (λ t. HasOwners g t c.loop-task.owners.items) (omega (arith, c.args.tasks.ok.0)) c.loop-task.invariant }
