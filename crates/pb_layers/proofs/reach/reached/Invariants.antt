use Rattle.std.proofs.Common.{◌+◌, ◌-◌, ◌≤◌, length}
use Rattle.pb_layers.specs.Graphs.{IsReached, Out, count}
use Rattle.pb_layers.proofs.reach.reached.Given as goal

abbrev pub invariant-followed : goal.invariant-followed
invariant-followed l = record { reached : IsReached (Out l.targets) l.fn.within.items l.fn.start l.followed l.within.items l.found.items; inside : l.followed ≤ length l.found.items }

abbrev pub decreases-followed : goal.decreases-followed
decreases-followed l = count l.within.items + length l.found.items - l.followed
