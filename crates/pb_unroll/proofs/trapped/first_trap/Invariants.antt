use Rattle.std.proofs.Common.{◌≡◌, ℕ, ◌+◌, ◌<◌, get_or, false}
use Rattle.pb_model.specs.Calls.{no_outcome}
use Rattle.pb_unroll.specs.ShownCells.{is_trapped}
use Rattle.pb_unroll.proofs.trapped.first_trap.Given as goal

abbrev pub invariant-loop-k : goal.invariant-loop-k
invariant-loop-k l = (j : ℕ) → j < l.k → is_trapped (get_or l.outcomes (l.from + j) no_outcome) ≡ false
