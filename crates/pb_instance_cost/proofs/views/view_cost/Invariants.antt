use Rattle.std.proofs.Common.{◌≡◌, ◌-◌}
use Rattle.std.specs.Prelude.{sum_by}
use Rattle.std.specs.List.{range_with_len}
use Rattle.pb_linear.specs.Sizes.{sizes_of}
use Rattle.pb_instance_cost.specs.Shown.{columns, row_shown}
use Rattle.pb_instance_cost.proofs.views.view_cost.Given as goal

abbrev pub invariant-loop-y : goal.invariant-loop-y
invariant-loop-y l = l.cost ≡ sum_by (row_shown l.matrices (sizes_of l.s) l.read (columns l.rect)) (range_with_len l.rect.y0 (l.y - l.rect.y0))
