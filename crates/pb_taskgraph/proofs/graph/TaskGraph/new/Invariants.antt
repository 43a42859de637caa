use Rattle.pb_taskgraph.specs.Owners.{HasOwners}
use Rattle.pb_taskgraph.proofs.graph.TaskGraph.new.Given as goal

abbrev pub invariant-loop-task : goal.invariant-loop-task
invariant-loop-task l = HasOwners (record { inputs = l.inputs; cells = l.cells; tasks = l.tasks.items }) l.task l.owners.items
