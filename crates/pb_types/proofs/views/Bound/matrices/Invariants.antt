use Rattle.std.proofs.Common.{◌≡◌, drop}
use Rattle.std.specs.List.{flat_map}
use Rattle.pb_types.specs.Least.{least, least_of}
use Rattle.pb_types.specs.Working.{matrix_in}
use Rattle.pb_types.proofs.views.Bound.matrices.Given as goal

abbrev pub invariant-loop-next : goal.invariant-loop-next
invariant-loop-next l = least l.found (least_of (flat_map (matrix_in l.self) (drop l.next-index l.arguments))) ≡ least_of (flat_map (matrix_in l.self) l.arguments)
