use Rattle.std.proofs.Common.{take}
use Rattle.std.specs.List.{AllZip}
use Rattle.pb_run_work.specs.Running.{IsSight}
use Rattle.pb_run_work.proofs.sights.sights_of.Given as goal

abbrev pub invariant-loop-here : goal.invariant-loop-here
invariant-loop-here l = AllZip (IsSight l.a) (take l.here-index l.instances) l.sights.items
