use Rattle.std.proofs.Common.{◌≡◌, ◌≤◌, ◌↔◌, ℕ, length, take}
use Rattle.std.specs.List.{Contains}
use Rattle.std.specs.VecDeque.{deque_capacity}
use Rattle.pb_steal.specs.Turns.{Opens}
use Rattle.pb_steal.proofs.runner.release_all.Given as goal

abbrev pub invariant-loop-next : goal.invariant-loop-next
invariant-loop-next g l = record {
  table : l.job.table ≡ l.fn.job.table;
  task : l.job.at.task ≡ l.fn.job.at.task;
  number : l.job.at.number ≡ l.fn.job.at.number;
  opens : Opens g.N.NamesWork.plan l.fn.job.at.task (take l.next-index l.nexts) l.row.items;
  opened : l.job.opened ≡ l.row.items;
  released : (u : ℕ) → Contains l.job.at.released u ↔ Contains (take l.next-index l.nexts) u;
  few : length l.row.items ≤ l.next-index;
  room : deque_capacity l.row ≡ deque_capacity l.fn.row;
}
