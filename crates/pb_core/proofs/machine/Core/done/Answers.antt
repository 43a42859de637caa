use Rattle.std.proofs.Common.{◌∙◌, ap, length, subst, sym}
use Rattle.std.proofs.lemmas.Bool.{eq-eqb, eqb-true}
use Rattle.pb_taskgraph.specs.Graphs.{GraphValue}
use Rattle.pb_core.specs.Events.{AllFinished, IsReached}
use Rattle.pb_core.specs.Cores.{CoreValue, state_of}
use Rattle.pb_core.proofs.FinishLemmas.{all-finished, finished-all}
use Rattle.pb_core.proofs.WriteLemmas.{sound}
use Rattle.pb_core.proofs.machine.Core.done.Goals as goal

pub returns-clause-done : goal.returns-clause-done
unfolding state_of
returns-clause-done g c =
    let p = g.N.NamesWork.plan in
    let tasks = ap length (c.tasks.ensures.tasks ∙ ap (λ (h : GraphValue). h.tasks) c.graph.ensures.graph) in
    let is = sound p _ _ _ _ _ c.self.invariant in (
      (λ e. subst (λ (v : CoreValue). AllFinished p.graph (state_of p v)) c.self.view_is (all-finished p _ is (eqb-true _ _ e ∙ tasks))),
      (λ all. eq-eqb _ _ (finished-all p _ is (subst (λ (v : CoreValue). AllFinished p.graph (state_of p v)) (sym c.self.view_is) all) ∙ sym tasks)),
    )

pub returns-clause-reached : goal.returns-clause-reached
returns-clause-reached g c = subst (λ (v : CoreValue). IsReached g.N.NamesWork.plan (state_of g.N.NamesWork.plan v)) c.self.view_is c.self.invariant.core.reached
