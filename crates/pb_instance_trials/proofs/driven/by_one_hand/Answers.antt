use Rattle.std.proofs.Common.{subst}
use Rattle.pb_taskgraph.specs.Plans.{Plan}
use Rattle.pb_instance_trials.specs.Driven.{AreTwo}
use Rattle.pb_instance_trials.proofs.DrivenLemmas.{first-dealt}
use Rattle.pb_instance_trials.proofs.driven.by_one_hand.Goals as goal

pub drive-requires-clause-job : goal.drive-requires-clause-job
drive-requires-clause-job g c κs within =
    first-dealt g.N.NamesWork.plan c.cells.invariant.table.plan (subst (λ (q : Plan). AreTwo q.graph) c.requires (c.are_two.ensures c.if-not-are_two.false)) _ _ _ _ c.in_ok-cells.ensures.jobs c.in-Some-Some.ensures'.items
