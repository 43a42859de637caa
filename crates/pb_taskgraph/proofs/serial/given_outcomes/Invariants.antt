use Rattle.std.proofs.Common.{◌≡◌, ◌<◌, ℕ, Some, length, slice_get}
use Rattle.pb_taskgraph.specs.Plans.{outcome_at}
use Rattle.pb_taskgraph.proofs.serial.given_outcomes.Given as goal

abbrev pub invariant-loop-cell : goal.invariant-loop-cell
invariant-loop-cell g l = record {
  size : length l.outcomes ≡ l.cells;
  inputs : (c : ℕ) → c < l.cell → slice_get l.outcomes c ≡ Some (outcome_at (g.W.Work.plan l.work).solution c);
}
