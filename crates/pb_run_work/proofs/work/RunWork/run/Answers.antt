use Rattle.std.proofs.Common.{◌∙◌, ap, arith, length, subst}
use Rattle.pb_steps.specs.Runs.{UnrolledValue}
use Rattle.pb_run_work.specs.Running.{IsRunning, RunValue}
use Rattle.pb_run_work.proofs.RunningLemmas.{pieces_below, steps_below, task_can}
use Rattle.pb_run_work.proofs.work.RunWork.run.Goals as goal

pub index-requires : goal.index-requires
index-requires g c =
    let steps = ap (λ (u : UnrolledValue). length u.steps) c.unrolled.view_is ∙ ap (λ (r : RunValue). length r.unrolled.steps) c.self.view_is in
    omega (arith, steps, c.unrolled.inside.steps.ok, steps_below c.args.self.now (subst IsRunning c.self.view_is c.self.invariant) c.args.task c.requires.task)

pub index-requires-2 : goal.index-requires-2
index-requires-2 g c =
    let pieces = ap (λ (r : RunValue). length r.pieces) c.self.view_is in
    omega (arith, pieces, c.self.inside.pieces.ok, pieces_below c.args.self.now (subst IsRunning c.self.view_is c.self.invariant) c.args.task c.requires.task)

pub run_step-requires : goal.run_step-requires
run_step-requires g c = record {
  can = task_can c.args.self.now (subst IsRunning c.self.view_is c.self.invariant) c.args.task (g.C.CellReader.turn c.args.port.now) c.requires.begins c.requires.task
      c.self.inside.accepted.now (ap (λ (r : RunValue). r.accepted) c.self.view_is)
      c.deref.result.now (c.deref.ensures.value ∙ ap (λ (u : UnrolledValue). u.instances) c.unrolled.view_is ∙ ap (λ (r : RunValue). r.unrolled.instances) c.self.view_is)
      c.deref-2.result.now (c.deref-2.ensures.value ∙ ap (λ (r : RunValue). r.sights) c.self.view_is)
      c.unrolled.inside.steps.items (ap (λ (u : UnrolledValue). u.steps) c.unrolled.view_is ∙ ap (λ (r : RunValue). r.unrolled.steps) c.self.view_is) c.index.result.now c.index.ensures
      c.self.inside.pieces.items (ap (λ (r : RunValue). r.pieces) c.self.view_is) c.index-2.result.now c.index-2.ensures
      _ c.requires.fits.jobs _ c.requires.fits.copies;
}
