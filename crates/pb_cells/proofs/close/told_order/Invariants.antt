use Rattle.std.proofs.Common.{◌≡◌, length}
use Rattle.std.specs.Mem.Slots.{slots_items}
use Rattle.pb_cells.specs.Ends.{StandByNumber}
use Rattle.pb_cells.proofs.close.told_order.Given as goal

abbrev pub invariant-loop-task : goal.invariant-loop-task
invariant-loop-task g l = record {
  size : length l.order.items ≡ l.tasks;
  stand : StandByNumber g.N.NamesWork.plan (slots_items l.words.words) l.task l.order.items;
}
