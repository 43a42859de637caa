use Rattle.std.proofs.Common.{ℕ, List}
use Rattle.pb_program.specs.Trees.{bare_prog}
use Rattle.pb_taskgraph.specs.Graphs.{TaskValue}
use Rattle.pb_steps.specs.declared.step.Step.{Step as StepValue}
use Rattle.pb_run_graph.specs.Ready.{IsMadeFor, IsTaskWith}
use Rattle.pb_run_graph.proofs.ListLemmas.{AreSome}
use Rattle.pb_run_graph.proofs.tasks.tasks_for.Given as goal

abbrev pub invariant-loop-step : goal.invariant-loop-step
invariant-loop-step l =
    AreSome (λ (x : StepValue) (before after : List ℕ) (task : TaskValue). IsMadeFor (bare_prog l.fn.a.program) l.fn.a.found l.fn.run.instances (λ s made. IsTaskWith s before after made) x task)
    l.fn.run.steps l.fn.links.before l.fn.links.after l.step-iterator.a.a.rest.now l.step-iterator.a.b.rest.items l.step-iterator.b.rest.items l.tasks.items
