use Rattle.std.proofs.Common.{◌≡◌, ◌∙◌, ⊎_elim, ℕ, List, ap, arith, inl, inr, subst, sym}
use Rattle.pb_program.specs.Trees.{bare_prog}
use Rattle.pb_taskgraph.specs.Graphs.{TaskValue}
use Rattle.pb_steps.specs.Runs.{UnrolledValue}
use Rattle.pb_steps.specs.Stands.{IsStep}
use Rattle.pb_steps.specs.declared.step.Step.{Step as StepValue}
use Rattle.pb_run_graph.specs.Ready.{IsMadeFor, IsTaskWith}
use Rattle.pb_run_graph.proofs.ListLemmas.{as_many, one_more}
use Rattle.pb_run_graph.proofs.tasks.tasks_for.Goals as goal

pub loop-step-preserved : goal.loop-step-preserved
loop-step-preserved c =
    let p = bare_prog c.args.a.now.program in
    let u = c.args.run.now in
    let i = c.loop-step.step-iterator in
    let steps = c.in-Some.ensures.steps in
    let instances : c.deref-in-loop-step.result.now ≡ u.instances = c.deref-in-loop-step.ensures.value ∙ ap (λ (q : UnrolledValue). q.instances) c.run.view_is in
    one_more (λ (x : StepValue) (before after : List ℕ) (task : TaskValue). IsMadeFor p c.args.a.now.found u.instances (λ s made. IsTaskWith s before after made) x task) u.steps c.args.links.before c.args.links.after
    i.a.a.rest.now _ i.a.b.rest.items _ i.b.rest.items _ c.loop-step.tasks.items c.push.new.self.items c.in-Some.step.now c.in-Some.before c.in-Some.after c.in_ok-task_for.field-0 c.loop-step.invariant steps.0.0 steps.0.1.0 steps.1.0 c.in_ok-push.ensures.items
    (λ s h.
    let t = c.in_ok-task_for.ensures s (subst (λ is. IsStep p c.args.a.now.found is c.in-Some.step.now s) (sym instances) h) in
    record { call = t.call; kind = t.kind; parts = t.parts; before = t.before ∙ c.before-in-loop-step.view_is; after = t.after ∙ c.after.view_is })

pub returns : goal.returns
returns c =
    let p = bare_prog c.args.a.now.program in
    let u = c.args.run.now in
    let i = c.loop-step.step-iterator in
    let some = c.loop-step.invariant in
    record {
      short = some.short;
      all = as_many (λ (x : StepValue) (before after : List ℕ) (task : TaskValue). IsMadeFor p c.args.a.now.found u.instances (λ s made. IsTaskWith s before after made) x task) u.steps c.args.links.before c.args.links.after i.a.a.rest.now i.a.b.rest.items i.b.rest.items c.loop-step.tasks.items some
          (⊎_elim (λ h. inl (⊎_elim (λ k. inl k.1.0) (λ k. inr (omega (arith, k.1.0, i.a.b.rest.ok))) h.1)) (λ h. inr (omega (arith, h.1.0, i.b.rest.ok))) c.in-None.ensures.steps);
      each = some.each;
    }
