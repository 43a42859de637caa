use Rattle.std.proofs.Common.{◌≡◌, take}
use Rattle.std.specs.Prelude.{sum_by}
use Rattle.pb_linear.specs.Sizes.{sizes_of}
use Rattle.pb_instance_cost.specs.Shown.{view_shown}
use Rattle.pb_instance_cost.proofs.views.views_cost.Given as goal

abbrev pub invariant-loop-view : goal.invariant-loop-view
invariant-loop-view l = l.cost ≡ sum_by (view_shown l.matrices (sizes_of l.s) l.rect) (take l.view-index l.views)
