use Rattle.std.proofs.Common.{◌≡◌, ℕ, false, get_or, length, ltb}
use Rattle.pb_core.proofs.first.first_written.Given as goal

abbrev pub invariant-loop-cell : goal.invariant-loop-cell
invariant-loop-cell l = record {
  room : length l.written.items ≡ l.cells;
  each : (c : ℕ) → get_or l.written.items c false ≡ ltb c l.cell;
}
