use Rattle.std.proofs.Common.{◌≡◌, ◌+◌, drop}
use Rattle.pb_unroll.specs.ShownCells.{place_in}
use Rattle.pb_unroll.proofs.places.place_of.Given as goal

abbrev pub invariant-loop-view : goal.invariant-loop-view
invariant-loop-view l = record {
  matrix : l.matrix ≡ l.first + l.view-index;
  left : place_in (drop l.view-index l.views) l.matrix l.left ≡ place_in l.views l.first l.cell;
}
