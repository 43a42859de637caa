use Rattle.pb_linear.specs.Sizes.{sizes_of}
use Rattle.pb_program.specs.Trees.{bare_transform}
use Rattle.pb_plan.proofs.TaskLemmas.{AreSome}
use Rattle.pb_plan.proofs.tasks.tasks_for.Given as goal

abbrev pub invariant-loop-job : goal.invariant-loop-job
invariant-loop-job l = AreSome (bare_transform l.transform) l.nodes (sizes_of l.fn.frame.sizes) l.views l.fn.frame.jobs l.job-iterator.a.a.rest.now l.job-iterator.a.b.rest.items l.job-iterator.b.rest.items l.tasks.items
