use Rattle.std.proofs.Common.{◌-◌}
use Rattle.std.specs.List.{flat_map, range_with_len}
use Rattle.pb_values.specs.Views.{row_cells, view_cells}
use Rattle.pb_core.specs.Events.{all_happen}
use Rattle.pb_core.specs.Cores.{state_of}
use Rattle.pb_locked.specs.Boards.{writes_by}
use Rattle.pb_locked.proofs.CompleteLemmas.{CellsLeft}
use Rattle.pb_locked.proofs.complete.store_view.Given as goal

abbrev pub invariant-loop-y : goal.invariant-loop-y
invariant-loop-y g l =
    let p = g.N.NamesWork.plan in
    CellsLeft p (all_happen p (state_of p l.initial.core) (writes_by l.hand (view_cells l.view))) (state_of p l.core) l.hand l.rest
    (flat_map (row_cells l.view) (range_with_len l.y (l.view.shape.h - l.y)))
