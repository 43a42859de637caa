use Rattle.std.proofs.Common.{◌≡◌, drop}
use Rattle.std.specs.List.{flat_map}
use Rattle.pb_types.specs.Least.{least, least_of}
use Rattle.pb_types.specs.Views.{view_broken}
use Rattle.pb_types.proofs.views.views.Given as goal

abbrev pub invariant-loop-next : goal.invariant-loop-next
invariant-loop-next l = least l.found (least_of (flat_map (view_broken l.matrices) (drop l.next-index l.views))) ≡ least_of (flat_map (view_broken l.matrices) l.views)
