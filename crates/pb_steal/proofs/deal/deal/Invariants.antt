use Rattle.std.proofs.Common.{◌≡◌, drop, length, map, take}
use Rattle.pb_cells.specs.Handles.{new_job}
use Rattle.pb_cells.specs.Views.{ready_tasks}
use Rattle.pb_steal.specs.Crews.{AreDealtTo, own_deques}
use Rattle.pb_steal.proofs.deal.deal.Given as goal

abbrev pub invariant-loop-job : goal.invariant-loop-job
invariant-loop-job g l = record {
  size : length l.hands.items ≡ length l.fn.hands.items;
  rest : l.rest.items ≡ map (new_job g.B.NamesTable.table) (drop l.dealt (ready_tasks g.N.NamesWork.plan));
  dealt : AreDealtTo (take l.dealt (ready_tasks g.N.NamesWork.plan)) (own_deques l.fn.hands.items) l.hands.items;
}

abbrev pub decreases-loop-job : goal.decreases-loop-job
decreases-loop-job g l = length l.rest.items
