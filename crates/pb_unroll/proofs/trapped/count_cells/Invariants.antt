use Rattle.std.proofs.Common.{◌≡◌, take}
use Rattle.pb_unroll.specs.ShownCells.{cells_shown}
use Rattle.pb_unroll.proofs.trapped.count_cells.Given as goal

abbrev pub invariant-loop-view : goal.invariant-loop-view
invariant-loop-view l = l.cells ≡ cells_shown (take l.view-index l.views)
