use Rattle.std.proofs.Common.{◌∙◌, ap, get_or}
use Rattle.pb_linear.specs.Sizes.{sizes_of}
use Rattle.pb_program.specs.Trees.{bare_prog, bare_transform}
use Rattle.pb_frame.specs.Frames.{JobValue}
use Rattle.pb_frame.proofs.FoundLemmas.{if_ok}
use Rattle.pb_steps.specs.Handed.{by_job, places_of}
use Rattle.pb_steps.specs.Values.{InstanceValue}
use Rattle.pb_run_graph.proofs.MadeLemmas.{job_same, same_item}
use Rattle.pb_run_graph.proofs.places.job_in.Goals as goal

pub returns : goal.returns
returns c =
    let v = c.args.here.now in
    if_ok c.job_step.result c.job_step.ensures (λ places e i j is has.
    e
    ∙ job_same (bare_prog c.args.a.now.program) c.args.a.now.found v i is c.here.inside.transform (ap (λ (q : InstanceValue). q.transform) c.here.view_is) c.nodes_at-nodes.result.now c.nodes_at-nodes.ensures
    (bare_transform c.transform_at-transform.result.now) c.transform_at-transform.ensures c.deref.result.now (c.deref.ensures.value ∙ ap (λ (q : InstanceValue). q.seats) c.here.view_is) (sizes_of c.here.inside.sizes) (ap (λ (q : InstanceValue). sizes_of q.sizes) c.here.view_is) c.index.result.now
    ∙ ap (λ (q : JobValue). places_of (by_job i q)) (same_item v.jobs c.args.job j c.index.result.now has (c.index.ensures ∙ ap (λ (q : InstanceValue). get_or q.jobs c.args.job c.index.result.now) c.here.view_is)))
