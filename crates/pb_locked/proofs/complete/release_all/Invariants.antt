use Rattle.std.proofs.Common.{drop}
use Rattle.pb_core.specs.Events.{all_happen}
use Rattle.pb_core.specs.Cores.{state_of}
use Rattle.pb_locked.specs.Boards.{releases_by}
use Rattle.pb_locked.proofs.CompleteLemmas.{AreLeft}
use Rattle.pb_locked.proofs.complete.release_all.Given as goal

abbrev pub invariant-loop-next : goal.invariant-loop-next
invariant-loop-next g l =
    let p = g.N.NamesWork.plan in
    AreLeft p (all_happen p (state_of p l.initial.core) (releases_by l.hand l.task l.nexts)) (state_of p l.core) (releases_by l.hand l.task (drop l.next-index l.nexts))
