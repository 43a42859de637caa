use Rattle.std.proofs.Common.{◌∙◌, ⊎_elim, arith, inl, inr}
use Rattle.pb_linear.specs.Sizes.{sizes_of}
use Rattle.pb_program.specs.Trees.{bare_transform}
use Rattle.pb_plan.proofs.TaskLemmas.{no_more, one_more}
use Rattle.pb_plan.proofs.tasks.tasks_for.Goals as goal

pub loop-job-preserved : goal.loop-job-preserved
loop-job-preserved c =
    let f = c.args.frame.now in
    let i = c.loop-job.job-iterator in
    let steps = c.in-Some.ensures.steps in
    let made = c.in_ok-task_for.ensures in
    one_more (bare_transform c.args.transform.now) c.args.nodes.now (sizes_of f.sizes) c.args.views.now f.jobs i.a.a.rest.now _ c.in-Some.job.now i.a.b.rest.items _ i.b.rest.items _ c.in-Some.before c.in-Some.after c.loop-job.tasks.items c.loop-job.invariant steps.0.0 steps.0.1.0 steps.1.0
    c.push.new.self.items c.in_ok-task_for.field-0 c.in_ok-push.ensures.items made.call made.kind made.parts (made.before ∙ c.before-in-loop-job.view_is) (made.after ∙ c.after.view_is)

pub returns : goal.returns
returns c =
    let f = c.args.frame.now in
    let i = c.loop-job.job-iterator in
    no_more (bare_transform c.args.transform.now) c.args.nodes.now (sizes_of f.sizes) c.args.views.now f.jobs i.a.a.rest.now i.a.b.rest.items i.b.rest.items c.loop-job.tasks.items c.loop-job.invariant
    (⊎_elim (λ h. inl (⊎_elim (λ k. inl k.1.0) (λ k. inr (omega (arith, k.1.0, i.a.b.rest.ok))) h.1)) (λ h. inr (omega (arith, h.1.0, i.b.rest.ok))) c.in-None.ensures.steps)
