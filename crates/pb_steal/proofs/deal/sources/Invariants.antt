use Rattle.std.proofs.Common.{◌≡◌, map, take}
use Rattle.pb_steal.specs.Crews.{deques_of}
use Rattle.pb_steal.specs.Deques.{OwnValue}
use Rattle.pb_steal.proofs.deal.sources.Given as goal

abbrev pub invariant-loop-place : goal.invariant-loop-place
invariant-loop-place g l = deques_of l.sources.items ≡ take l.place (map (λ (o : OwnValue). o.deque) l.owns.items)
