use Rattle.std.proofs.Common.{◌≡◌, ◌++◌, length}
use Rattle.std.specs.VecDeque.{deque_capacity}
use Rattle.pb_steal.proofs.runner.push_all.Given as goal

abbrev pub invariant-loop-ticket : goal.invariant-loop-ticket
invariant-loop-ticket g l = record {
  own : l.own ≡ record l.fn.own { pushed = l.own.pushed };
  all : l.own.pushed ++ l.row.items ≡ l.fn.own.pushed ++ l.fn.row.items;
  room : deque_capacity l.row ≡ deque_capacity l.fn.row;
}

abbrev pub decreases-loop-ticket : goal.decreases-loop-ticket
decreases-loop-ticket g l = length l.row.items
