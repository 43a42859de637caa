use Rattle.std.proofs.Common.{◌∙◌, ap, length, subst, sym, ◌<◌, ◌≡◌}
use Rattle.pb_taskgraph.specs.Graphs.{GraphValue, before_of}
use Rattle.pb_taskgraph.specs.Plans.{IsPlan, Plan}
use Rattle.pb_core.specs.States.{State}
use Rattle.pb_locked.specs.Boards.{IsBoard}
use Rattle.pb_locked.specs.Ready.{Holds, HoldsReady}
use Rattle.pb_locked.proofs.BoardLemmas.{board-first}
use Rattle.pb_locked.proofs.HeldLemmas.{first-holds}
use Rattle.pb_locked.proofs.board.Board.new.Goals as goal

pub invariant_of-result : goal.invariant_of-result
invariant_of-result g c =
    let p = g.N.NamesWork.plan in
    let is = subst (λ (q : Plan). IsPlan q) c.requires.name c.graph.ensures.plan in
    let graph = c.graph.ensures.graph ∙ ap (λ (q : Plan). q.graph) c.requires.name in
    let held = subst (λ (h : GraphValue). Holds (λ t. (t < length h.tasks) × (length (before_of h t) ≡ 0)) (length h.tasks) c.in_ok-ready.ready) graph c.in_ok-ready.ensures in (
      subst (λ (s : State). IsBoard p s) (sym c.in_ok-core.ensures) (board-first p c.args.hands is c.requires.some c.requires.few),
      subst (λ (s : State). HoldsReady p s c.in_ok-ready.ready) (sym c.in_ok-core.ensures) (first-holds p c.args.hands c.in_ok-ready.ready held),
    )
