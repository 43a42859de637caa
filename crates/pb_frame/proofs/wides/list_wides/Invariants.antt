use Rattle.std.proofs.Common.{◌≡◌, ◌++◌, map, take}
use Rattle.pb_frame.proofs.wides.list_wides.Given as goal

abbrev pub invariant-loop-k : goal.invariant-loop-k
invariant-loop-k l = l.wides.items ≡ l.initial.wides.items ++ map (λ k. (l.layer, k)) (take l.k-index l.rules)
