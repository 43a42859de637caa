use Rattle.std.proofs.Common.{◌≡◌, ℕ, length, slice_get, Some, take}
use Rattle.pb_eval.specs.Moving.{cells_at}
use Rattle.pb_eval.specs.declared.moving.Moving.{Moving}
use Rattle.pb_jobs.specs.Distances.{IsStep}
use Rattle.pb_jobs.specs.Lines.{first_cells}
use Rattle.pb_jobs.specs.declared.advance.Advance.{Advance}
use Rattle.pb_jobs.proofs.shown.Shown.begin_cells.Given as goal

abbrev pub invariant-loop-k : goal.invariant-loop-k
invariant-loop-k l = record {
  count : length l.self.cells.items ≡ l.k;
  first : cells_at l.self.cells.items 0 ≡ first_cells (take l.k l.initial.self.views.items);
  by : (j : ℕ) (a : Advance) (m : Moving) → slice_get l.initial.self.advances.items j ≡ Some a → slice_get l.self.cells.items j ≡ Some m → IsStep a.far m.by;
  views : l.self.views ≡ l.initial.self.views;
  advances : l.self.advances ≡ l.initial.self.advances;
}
