use Rattle.std.proofs.Common.{◌≡◌, ◌∙◌, [], ap, arith, false, get_or, length, subst, sym, true}
use Rattle.pb_taskgraph.specs.Graphs.{EachOnce, GraphValue, TaskValue}
use Rattle.pb_core.specs.Cores.{FindsOpen, untouched}
use Rattle.pb_core.proofs.LinkLemmas.{after-is, link-finds, link-none, link-task, row-is}
use Rattle.pb_core.proofs.machine.Core.link.Goals as goal

pub returns-then-not-can_release : goal.returns-then-not-can_release
returns-then-not-can_release g c =
    link-none g.N.NamesWork.plan _ _ _ _ _ c.self.invariant c.args.self.now c.self.view_is c.args.hand c.args.task c.args.next c.progress_of.result
    (c.progress_of.ensures ∙ ap (λ l. get_or l c.args.task untouched) c.deref.ensures.value)
    (λ can. let wrong : false ≡ true = sym c.if-not-can_release.true ∙ c.can_release.ensures.1 can in cc)

pub open_place-requires-clause-flags : goal.open_place-requires-clause-flags
open_place-requires-clause-flags g c =
    let at = c.progress_of.ensures ∙ ap (λ l. get_or l c.args.task untouched) c.deref.ensures.value in
    let below = link-task g.N.NamesWork.plan _ _ _ _ _ c.self.invariant c.args.self.now c.self.view_is c.args.hand c.args.task c.args.next c.progress_of.result at (c.can_release.ensures.0 c.if-not-can_release.false) in
    let after = after-is g.N.NamesWork.plan c.args.task c.tasks.result.now c.index-tasks-task.result c.deref-2.result.now (c.tasks.ensures.tasks ∙ ap (λ (h : GraphValue). h.tasks) c.graph.ensures.graph) below c.index-tasks-task.is
    (c.deref-2.ensures.value ∙ ap (λ (t : TaskValue). t.after) c.links.view_is) in
    let row = row-is c.self.inside.released.items c.args.task c.index-flags.result.now (omega (arith, c.self.invariant.core.released, below)) c.index-flags.ensures in
    ap length (c.deref-3.ensures.value ∙ c.flags.view_is ∙ row) ∙ c.self.invariant.core.links c.args.task below ∙ sym (ap length after)

pub open_place-requires-clause-once : goal.open_place-requires-clause-once
open_place-requires-clause-once g c =
    let at = c.progress_of.ensures ∙ ap (λ l. get_or l c.args.task untouched) c.deref.ensures.value in
    let below = link-task g.N.NamesWork.plan _ _ _ _ _ c.self.invariant c.args.self.now c.self.view_is c.args.hand c.args.task c.args.next c.progress_of.result at (c.can_release.ensures.0 c.if-not-can_release.false) in
    let after = after-is g.N.NamesWork.plan c.args.task c.tasks.result.now c.index-tasks-task.result c.deref-2.result.now (c.tasks.ensures.tasks ∙ ap (λ (h : GraphValue). h.tasks) c.graph.ensures.graph) below c.index-tasks-task.is
    (c.deref-2.ensures.value ∙ ap (λ (t : TaskValue). t.after) c.links.view_is) in
    subst EachOnce (sym after) (c.graph.ensures.plan.graph.linked.after_once c.args.task)

pub returns : goal.returns
returns g c =
    let at = c.progress_of.ensures ∙ ap (λ l. get_or l c.args.task untouched) c.deref.ensures.value in
    let can = c.can_release.ensures.0 c.if-not-can_release.false in
    let below = link-task g.N.NamesWork.plan _ _ _ _ _ c.self.invariant c.args.self.now c.self.view_is c.args.hand c.args.task c.args.next c.progress_of.result at can in
    let after = after-is g.N.NamesWork.plan c.args.task c.tasks.result.now c.index-tasks-task.result c.deref-2.result.now (c.tasks.ensures.tasks ∙ ap (λ (h : GraphValue). h.tasks) c.graph.ensures.graph) below c.index-tasks-task.is
    (c.deref-2.ensures.value ∙ ap (λ (t : TaskValue). t.after) c.links.view_is) in
    let row = c.deref-3.ensures.value ∙ c.flags.view_is ∙ row-is c.self.inside.released.items c.args.task c.index-flags.result.now (omega (arith, c.self.invariant.core.released, below)) c.index-flags.ensures in
    link-finds g.N.NamesWork.plan _ _ _ _ _ c.self.invariant c.args.self.now c.self.view_is c.args.hand c.args.task c.args.next c.progress_of.result at c.open_place.result can
    (subst (λ l. FindsOpen l (get_or c.self.inside.released.items c.args.task []) c.args.next c.open_place.result) after (subst (λ l. FindsOpen c.deref-2.result.now l c.args.next c.open_place.result) row c.open_place.ensures))
