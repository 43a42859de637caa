use Rattle.pb_linear.specs.Sizes.{sizes_of}
use Rattle.pb_program.specs.Trees.{bare_rule}
use Rattle.pb_jobs.specs.Shown.{AreWindowsOf, HasSteadyViews}
use Rattle.pb_jobs.proofs.ListLemmas.{of_item, zip_next}
use Rattle.pb_jobs.proofs.windows.rule_windows.Goals as goal

pub windows_for-requires-clause-steady : goal.windows_for-requires-clause-steady
windows_for-requires-clause-steady c = of_item HasSteadyViews c.args.rules.now c.loop-rule.rule-index c.rule-item.result c.loop-rule-test.true c.rule-item.is c.requires.steady

pub loop-rule-preserved : goal.loop-rule-preserved
loop-rule-preserved c =
    zip_next bare_rule (AreWindowsOf (sizes_of c.args.s.now)) c.args.rules.now c.loop-rule.rule-index c.rule-item.result c.loop-rule.windows.items c.in_ok-windows_for.field-0 _ c.loop-rule-test.true c.rule-item.is c.in_ok-windows_for.ensures c.loop-rule.invariant c.in_ok-push.ensures.items
