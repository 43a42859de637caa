use Rattle.std.proofs.Common.{◌≡◌, take}
use Rattle.pb_linear.specs.Sizes.{sizes_of}
use Rattle.pb_views.specs.Layouts.{cell_count}
use Rattle.pb_plan.proofs.planned.cell_count.Given as goal

abbrev pub invariant-loop-decl : goal.invariant-loop-decl
invariant-loop-decl l = l.count ≡ cell_count (sizes_of l.s) (take l.decl-index l.decls)
