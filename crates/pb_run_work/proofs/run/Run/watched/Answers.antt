use Rattle.std.proofs.Common.{◌∙◌, ap, length, arith}
use Rattle.pb_program.specs.Transforms.{TransformValue}
use Rattle.pb_run_work.specs.Running.{RunValue}
use Rattle.pb_run_work.proofs.WatchedLemmas.{inputs_there}
use Rattle.pb_run_work.proofs.run.Run.watched.Goals as goal

pub slice_bounds-result-count : goal.slice_bounds-result-count
slice_bounds-result-count c =
    let inputs = ap (λ (t : TransformValue). t.inputs) c.transform.view_is ∙ ap (λ (r : RunValue). r.transform.inputs) c.self.view_is in
    let middles = ap (λ (t : TransformValue). t.middles) c.transform.view_is ∙ ap (λ (r : RunValue). r.transform.middles) c.self.view_is in
    omega (arith, inputs_there c.args.self.now c.matrices-views.ensures.running, inputs, middles, ap length c.matrices-views.ensures.views)

pub slice_bounds-result-start : goal.slice_bounds-result-start
slice_bounds-result-start c =
    let inputs = ap (λ (t : TransformValue). t.inputs) c.transform.view_is ∙ ap (λ (r : RunValue). r.transform.inputs) c.self.view_is in
    let middles = ap (λ (t : TransformValue). t.middles) c.transform.view_is ∙ ap (λ (r : RunValue). r.transform.middles) c.self.view_is in
    omega (arith, inputs_there c.args.self.now c.matrices-views.ensures.running, inputs, middles, ap length c.matrices-views.ensures.views)
