use Rattle.std.proofs.Common.{◌≡◌, ◌<◌, ℕ, Some, length, slice_get}
use Rattle.pb_taskgraph.specs.Plans.{outcome_at}
use Rattle.pb_cells.proofs.close.told_outcomes.Given as goal

abbrev pub invariant-loop-cell : goal.invariant-loop-cell
invariant-loop-cell g l = record {
  size : length l.outcomes ≡ l.cells;
  told : (c : ℕ) → c < l.cell → slice_get l.outcomes c ≡ Some (outcome_at g.N.NamesWork.plan.solution c);
}
