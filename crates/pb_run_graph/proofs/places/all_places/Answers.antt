use Rattle.std.proofs.Common.{◌≡◌, ◌∙◌, List, ap, arith, get_or, length, subst}
use Rattle.pb_program.specs.Trees.{bare_prog}
use Rattle.pb_links.specs.Spots.{PlacesValue}
use Rattle.pb_plan.proofs.TaskLemmas.{zip_next}
use Rattle.pb_steps.specs.Handed.{places_of}
use Rattle.pb_steps.specs.Runs.{UnrolledValue}
use Rattle.pb_steps.specs.declared.step.Step.{Step as StepValue}
use Rattle.pb_run_graph.specs.Ready.{IsMadeFor}
use Rattle.pb_run_graph.proofs.places.all_places.Goals as goal

pub loop-step-preserved : goal.loop-step-preserved
loop-step-preserved c =
    let p = bare_prog c.args.a.now.program in
    let u = c.args.run.now in
    let x = c.step-item.result in
    let made = c.in_ok-step_places.field-0 in
    let steps : c.deref-step-items.result.now ≡ u.steps = c.deref-step-items.ensures.value ∙ ap (λ (q : UnrolledValue). q.steps) c.run.view_is in
    let instances : c.deref.result.now ≡ u.instances = c.deref.ensures.value ∙ ap (λ (q : UnrolledValue). q.instances) c.run.view_is in
    let at : x ≡ get_or u.steps c.loop-step.step-index x = c.step-item.is ∙ ap (λ (l : List StepValue). get_or l c.loop-step.step-index x) steps in
    zip_next (λ (y : StepValue) (q : PlacesValue). IsMadeFor p c.args.a.now.found u.instances (λ s z. z ≡ places_of s) y q) u.steps c.loop-step.step-index x c.loop-step.found.items c.push.new.self.items made (omega (arith, c.loop-step-test.true, ap length steps)) c.loop-step.invariant
    (subst (λ y. IsMadeFor p c.args.a.now.found u.instances (λ s z. z ≡ places_of s) y made) at (subst (λ is. IsMadeFor p c.args.a.now.found is (λ s z. z ≡ places_of s) x made) instances c.in_ok-step_places.ensures)) c.in_ok-push.ensures.items
