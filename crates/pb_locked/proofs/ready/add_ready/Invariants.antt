use Rattle.std.proofs.Common.{◌≡◌, ◌⊎◌, length, take}
use Rattle.std.specs.List.{Contains}
use Rattle.pb_core.specs.Cores.{state_of}
use Rattle.pb_locked.specs.Ready.{Holds}
use Rattle.pb_locked.proofs.ready.add_ready.Given as goal

abbrev pub invariant-loop-next : goal.invariant-loop-next
invariant-loop-next g l =
    let p = g.N.NamesWork.plan in
    Holds (λ t. Contains l.initial.ready.tasks t ⊎ (Contains (take l.next-index l.nexts) t × ((state_of p l.core).count t ≡ 0))) (length p.graph.tasks) l.ready
