use Rattle.std.proofs.Common.{◌≡◌, ◌<◌, ℕ, Some, length, get_or}
use Rattle.pb_core.specs.Cores.{state_of}
use Rattle.pb_locked.proofs.finished.order_on.Given as goal

abbrev pub invariant-loop-task : goal.invariant-loop-task
invariant-loop-task g l = record {
  size : length l.order.items ≡ l.tasks;
  placed : (t n : ℕ) → t < l.task → (state_of g.N.NamesWork.plan l.board).number t ≡ Some n → get_or l.order.items n 0 ≡ t;
}
