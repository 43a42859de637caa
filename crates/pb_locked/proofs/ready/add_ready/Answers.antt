use Rattle.std.proofs.Common.{◌≡◌, ◌⊎◌, ◌+◌, arith, get_or, length, subst, sym, take}
use Rattle.std.specs.List.{Contains}
use Rattle.std.proofs.lemmas.Bool.Decides.{nat_tests}
use Rattle.std.proofs.lemmas.List.{get_or_default, take_all}
use Rattle.std.proofs.lemmas.List.Elements.{Contains-get_or}
use Rattle.pb_core.specs.Cores.{state_of}
use Rattle.pb_locked.specs.Ready.{Holds, ReadyValue}
use Rattle.pb_locked.proofs.ReadyLemmas.{add-kept, add-more, add-room, added-below, now-zero, not-zero}
use Rattle.pb_locked.proofs.ready.add_ready.Goals.{then-progress-eq0, else-progress-eq0}
use Rattle.pb_locked.proofs.ready.add_ready.Goals as goal

pub progress-requires-after_bounds : goal.progress-requires-after_bounds
progress-requires-after_bounds g c κs within = c.requires.fresh (get_or c.args.nexts.now c.loop-next.next-index 0) (Contains-get_or c.args.nexts.now c.loop-next.next-index 0 c.loop-next-test.true)

pub add-requires : goal.add-requires
add-requires g c =
    let p = g.N.NamesWork.plan in
    let x = get_or c.args.nexts.now c.loop-next.next-index 0 in
    let in_ = Contains-get_or c.args.nexts.now c.loop-next.next-index 0 c.loop-next-test.true in
    add-room (λ t. (state_of p c.args.core.now).count t ≡ 0) c.args.ready.now.tasks c.args.nexts.now (length p.graph.tasks) c.loop-next.next-index x c.loop-next.ready c.loop-next-test.true (get_or_default c.args.nexts.now c.loop-next.next-index 0 x c.loop-next-test.true) c.loop-next.invariant (c.requires.apart x in_) c.requires.one
    (added-below (λ t. (state_of p c.args.core.now).count t ≡ 0) c.args.ready.now.tasks c.args.nexts.now (length p.graph.tasks) c.loop-next.next-index c.requires.tasks c.requires.fresh) (c.requires.fresh x in_)

pub loop-next-preserved : goal.loop-next-preserved
loop-next-preserved g c =
    let p = g.N.NamesWork.plan in
    let x = get_or c.args.nexts.now c.loop-next.next-index 0 in
    let in_ = Contains-get_or c.args.nexts.now c.loop-next.next-index 0 c.loop-next-test.true in
    elim c.if-progress-eq0.branch [
      | then-progress-eq0 w ↦
          subst (λ (v : ReadyValue). Holds (λ t. Contains c.args.ready.now.tasks t ⊎ (Contains (take (c.loop-next.next-index + 1) c.args.nexts.now) t × ((state_of p c.args.core.now).count t ≡ 0))) (length p.graph.tasks) v) (sym w.ready-is)
          (add-more (λ t. (state_of p c.args.core.now).count t ≡ 0) c.args.ready.now.tasks c.args.nexts.now (length p.graph.tasks) c.loop-next.next-index x c.loop-next.ready c.loop-next-test.true (get_or_default c.args.nexts.now c.loop-next.next-index 0 x c.loop-next-test.true) c.loop-next.invariant (c.requires.apart x in_) c.requires.one
          w.add.new.self (now-zero p c.args.core.now x c.progress.result c.progress.ensures (grind (arith, nat_tests))) w.add.ensures.tasks w.add.ensures.room)
      | else-progress-eq0 w ↦
          subst (λ (v : ReadyValue). Holds (λ t. Contains c.args.ready.now.tasks t ⊎ (Contains (take (c.loop-next.next-index + 1) c.args.nexts.now) t × ((state_of p c.args.core.now).count t ≡ 0))) (length p.graph.tasks) v) (sym w.ready-is)
          (add-kept (λ t. (state_of p c.args.core.now).count t ≡ 0) c.args.ready.now.tasks c.args.nexts.now (length p.graph.tasks) c.loop-next.next-index x c.loop-next.ready c.loop-next-test.true (get_or_default c.args.nexts.now c.loop-next.next-index 0 x c.loop-next-test.true) c.loop-next.invariant
          (not-zero p c.args.core.now x c.progress.result c.progress.ensures (λ zero. grind (arith, nat_tests))))
    ]

pub returns : goal.returns
returns g c =
    let p = g.N.NamesWork.plan in
    subst (λ l. Holds (λ t. Contains c.args.ready.now.tasks t ⊎ (Contains l t × ((state_of p c.args.core.now).count t ≡ 0))) (length p.graph.tasks) c.loop-next.ready)
    (take_all c.loop-next.next-index c.args.nexts.now (omega (arith, c.loop-next-test.false))) c.loop-next.invariant
