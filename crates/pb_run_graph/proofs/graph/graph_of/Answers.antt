use Rattle.std.proofs.Common.{ap, subst, sym}
use Rattle.pb_taskgraph.specs.Graphs.{GraphValue, IsGraph}
use Rattle.pb_run_plan.specs.RunTasks.{AreTasksOf}
use Rattle.pb_steps.specs.Runs.{UnrolledValue}
use Rattle.pb_run_graph.proofs.GraphLemmas.{made_graph, made_tasks}
use Rattle.pb_run_graph.proofs.StepLemmas.{all_can}
use Rattle.pb_run_graph.proofs.graph.graph_of.Goals as goal

pub tasks_for-requires : goal.tasks_for-requires
tasks_for-requires c = all_can c.args.a.now c.args.run.now c.args.inputs c.requires.ready

pub new-requires : goal.new-requires
new-requires c =
    let u = c.args.run.now in
    subst (λ n. IsGraph (record { inputs = c.args.inputs; cells = n; tasks = c.in_ok-tasks.tasks.items })) (sym (ap (λ (q : UnrolledValue). q.met.cells) c.run.view_is))
    (made_graph c.args.a.now u c.args.inputs c.requires.ready c.in_ok-links.links c.in_ok-tasks.tasks.items c.in_ok-tasks.ensures c.in_ok-links.ensures.found c.in_ok-links.ensures.within)

pub returns-clause-found : goal.returns-clause-found
returns-clause-found c = λ steps h.
    subst (AreTasksOf steps) (sym (ap (λ (g : GraphValue). g.tasks) c.in_ok-new.ensures)) (made_tasks c.args.a.now c.args.run.now c.args.inputs c.requires.ready c.in_ok-links.links c.in_ok-tasks.tasks.items c.in_ok-tasks.ensures c.in_ok-links.ensures.found steps h)
