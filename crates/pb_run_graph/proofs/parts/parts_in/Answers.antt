use Rattle.pb_plan.proofs.TaskLemmas.{zip_next}
use Rattle.pb_run_graph.specs.Ready.{IsPartIn}
use Rattle.pb_run_graph.proofs.parts.parts_in.Goals as goal

pub loop-part-preserved : goal.loop-part-preserved
loop-part-preserved c = zip_next (IsPartIn c.args.decls.now c.args.nodes.now c.args.seats.now) c.args.parts.now c.loop-part.part-index _ c.loop-part.found.items c.push.new.self.items c.in_ok-part_in.field-0 c.loop-part-test.true c.loop-part.invariant c.in_ok-part_in.ensures c.in_ok-push.ensures.items
