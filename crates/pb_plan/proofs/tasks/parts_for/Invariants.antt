use Rattle.std.proofs.Common.{take}
use Rattle.std.specs.List.{AllZip}
use Rattle.pb_program.specs.Trees.{bare_transform}
use Rattle.pb_plan.specs.Tasks.{IsPartFor}
use Rattle.pb_plan.proofs.tasks.parts_for.Given as goal

abbrev pub invariant-loop-part : goal.invariant-loop-part
invariant-loop-part l = AllZip (IsPartFor (bare_transform l.transform) l.nodes l.views) (take l.part-index l.parts) l.found.items
