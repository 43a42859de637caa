use Rattle.std.proofs.Common.{◌≡◌, replicate}
use Rattle.pb_cells.specs.Handles.{new_hand}
use Rattle.pb_cells.proofs.deal.deal_hands.Given as goal

abbrev pub invariant-loop-hand : goal.invariant-loop-hand
invariant-loop-hand g l = record {
  table : l.first.table_id ≡ l.cells;
  hands : l.dealt.items ≡ replicate l.hand (new_hand l.cells);
}
