use Rattle.std.proofs.Common.{subst}
use Rattle.pb_plan.proofs.TaskLemmas.{zip_next}
use Rattle.pb_jobs.proofs.ListLemmas.{of_item}
use Rattle.pb_run_work.specs.Holding.{CanBeSeen}
use Rattle.pb_run_work.specs.Running.{IsSight}
use Rattle.pb_run_work.proofs.sights.sights_of.Goals as goal

pub sight_of-requires : goal.sight_of-requires
sight_of-requires c = of_item (CanBeSeen c.args.a.now) c.args.instances.now c.loop-here.here-index c.here-item.result c.loop-here-test.true c.here-item.is c.requires

pub loop-here-preserved : goal.loop-here-preserved
loop-here-preserved c =
    zip_next (IsSight c.args.a.now) c.args.instances.now c.loop-here.here-index c.here-item.result c.loop-here.sights.items c.push.new.self.items c.in_ok-sight_of.field-0 c.loop-here-test.true c.loop-here.invariant
    (subst (λ v. IsSight c.args.a.now v c.in_ok-sight_of.field-0) c.here-item.is c.in_ok-sight_of.ensures) c.in_ok-push.ensures.items
