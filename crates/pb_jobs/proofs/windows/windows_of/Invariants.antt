use Rattle.std.proofs.Common.{take}
use Rattle.pb_linear.specs.Sizes.{sizes_of}
use Rattle.pb_jobs.specs.Shown.{AreWindows}
use Rattle.pb_jobs.proofs.windows.windows_of.Given as goal

abbrev pub invariant-loop-view : goal.invariant-loop-view
invariant-loop-view l = AreWindows (sizes_of l.s) (take l.view-index l.views) l.windows.items
