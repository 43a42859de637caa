use Rattle.std.proofs.Common.{◌≡◌, ◌⊎◌, length}
use Rattle.std.specs.List.{Contains}
use Rattle.pb_cells.specs.Ends.{Knows}
use Rattle.pb_cells.specs.Handles.{HandValue}
use Rattle.pb_cells.proofs.close.one_of_all.Given as goal

-- the Hands are those that are left and those that were taken in, of which one knows all
abbrev pub invariant-loop-hand : goal.invariant-loop-hand
invariant-loop-hand g l = record {
  table : l.all.table ≡ l.cells;
  tables : (hand : HandValue) → Contains l.hands.items hand → hand.table ≡ l.cells;
  known : (hand : HandValue) → Contains l.fn.hands.items hand → Contains l.hands.items hand ⊎ Knows l.all hand;
}

abbrev pub decreases-loop-hand : goal.decreases-loop-hand
decreases-loop-hand g l = length l.hands.items
