use Rattle.std.proofs.Common.{◌<◌, ℕ}
use Rattle.pb_core.specs.Cores.{state_of}
use Rattle.pb_locked.specs.Boards.{HasBegun}
use Rattle.pb_locked.proofs.board.Board.begun.Given as goal

abbrev pub invariant-loop-task : goal.invariant-loop-task
invariant-loop-task g l = (k : ℕ) → k < l.task → (hand : ℕ) → HasBegun (state_of g.N.NamesWork.plan l.self) hand k → ⊥
