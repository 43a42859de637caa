use Rattle.std.proofs.Common.{take}
use Rattle.pb_layers.specs.Numbers.{HaveLists}
use Rattle.pb_layers.proofs.order.listed.Given as goal

abbrev pub invariant-loop-key : goal.invariant-loop-key
invariant-loop-key l = HaveLists (take l.key-index l.keys) l.lists l.layers.items
