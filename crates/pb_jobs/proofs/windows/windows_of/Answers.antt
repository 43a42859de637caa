use Rattle.pb_linear.specs.Sizes.{sizes_of}
use Rattle.pb_jobs.proofs.WindowLemmas.{next_window}
use Rattle.pb_jobs.proofs.windows.windows_of.Goals as goal

pub loop-view-preserved : goal.loop-view-preserved
loop-view-preserved c = next_window (sizes_of c.args.s.now) c.args.views.now c.loop-view.view-index c.view-item.result c.loop-view.windows.items c.new.result _ c.loop-view-test.true c.view-item.is c.new.ensures c.loop-view.invariant c.in_ok-push.ensures.items
