use Rattle.std.proofs.Common.{◌-◌, map}
use Rattle.std.specs.List.{range_with_len}
use Rattle.pb_values.specs.Views.{cell_of, row_cells}
use Rattle.pb_core.specs.Events.{all_happen}
use Rattle.pb_core.specs.Cores.{state_of}
use Rattle.pb_locked.specs.Boards.{writes_by}
use Rattle.pb_locked.proofs.CompleteLemmas.{AreLeft}
use Rattle.pb_locked.proofs.complete.store_row.Given as goal

abbrev pub invariant-loop-x : goal.invariant-loop-x
invariant-loop-x g l =
    let p = g.N.NamesWork.plan in
    AreLeft p (all_happen p (state_of p l.initial.core) (writes_by l.hand (row_cells l.view l.y))) (state_of p l.core)
    (writes_by l.hand (map (λ x. cell_of l.view x l.y) (range_with_len l.x (l.view.shape.w - l.x))))
