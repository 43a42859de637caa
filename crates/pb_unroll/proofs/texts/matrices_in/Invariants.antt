use Rattle.std.proofs.Common.{◌≡◌, map, take}
use Rattle.pb_unroll.specs.ShownCells.{matrix_in}
use Rattle.pb_unroll.proofs.texts.matrices_in.Given as goal

abbrev pub invariant-loop-view : goal.invariant-loop-view
invariant-loop-view l = l.matrices.items ≡ map (matrix_in l.outcomes) (take l.view-index l.views)
