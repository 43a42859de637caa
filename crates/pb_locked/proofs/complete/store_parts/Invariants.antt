use Rattle.std.proofs.Common.{◌≤◌, drop, length}
use Rattle.std.specs.List.{flat_map}
use Rattle.pb_values.specs.Views.{view_cells}
use Rattle.pb_taskgraph.specs.declared.limits.TheConstants.{MOST_CELLS}
use Rattle.pb_taskgraph.specs.declared.task.Part.{Part}
use Rattle.pb_core.specs.Events.{all_happen}
use Rattle.pb_core.specs.Cores.{state_of}
use Rattle.pb_locked.specs.Boards.{writes_by}
use Rattle.pb_locked.proofs.CompleteLemmas.{CellsLeft}
use Rattle.pb_locked.proofs.complete.store_parts.Given as goal

abbrev pub invariant-loop-part : goal.invariant-loop-part
invariant-loop-part g l =
    let p = g.N.NamesWork.plan in
    (length l.rest ≤ MOST_CELLS) × CellsLeft p (all_happen p (state_of p l.initial.core) (writes_by l.hand (flat_map (λ (part : Part). view_cells part.view) l.parts))) (state_of p l.core) l.hand l.rest
    (flat_map (λ (part : Part). view_cells part.view) (drop l.part-index l.parts))
