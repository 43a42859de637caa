use Rattle.std.proofs.Common.{◌≡◌, length}
use Rattle.pb_layers.specs.Components.{NoneMarked}
use Rattle.pb_layers.specs.Graphs.{IsReached, Out}
use Rattle.pb_layers.proofs.components.take_component.Given as goal

abbrev pub invariant-there : goal.invariant-there
invariant-there l = record {
  reached : IsReached (Out l.graph.down.items) l.fn.left.items l.from (length l.there.items) l.left.items l.there.items;
  room : length l.ahead.items ≡ length l.fn.left.items;
  clear : NoneMarked l.ahead.items;
}

abbrev pub decreases-there : goal.decreases-there
decreases-there l = length l.there.items
