use Rattle.pb_program.specs.Trees.{bare_transform}
use Rattle.pb_plan.specs.Tasks.{IsPartFor}
use Rattle.pb_plan.proofs.TaskLemmas.{zip_next}
use Rattle.pb_plan.proofs.tasks.parts_for.Goals as goal

pub loop-part-preserved : goal.loop-part-preserved
loop-part-preserved c = zip_next (IsPartFor (bare_transform c.args.transform.now) c.args.nodes.now c.args.views.now) c.args.parts.now c.loop-part.part-index _ c.loop-part.found.items c.push.new.self.items c.in_ok-part_for.field-0 c.loop-part-test.true c.loop-part.invariant c.in_ok-part_for.ensures c.in_ok-push.ensures.items
