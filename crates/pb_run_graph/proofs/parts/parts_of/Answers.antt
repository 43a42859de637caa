use Rattle.std.proofs.Common.{◌∙◌, ap}
use Rattle.pb_program.specs.Transforms.{TransformValue}
use Rattle.pb_program.specs.Trees.{bare_prog, bare_transform}
use Rattle.pb_frame.proofs.FoundLemmas.{if_ok}
use Rattle.pb_steps.specs.Values.{InstanceValue}
use Rattle.pb_run_graph.proofs.MadeLemmas.{parts_same}
use Rattle.pb_run_graph.proofs.parts.parts_of.Goals as goal

pub returns : goal.returns
returns c =
    let v = c.args.here.now in
    if_ok c.parts_in.result c.parts_in.ensures (λ made h i is.
    parts_same (bare_prog c.args.a.now.program) c.args.a.now.found v i is c.here.inside.transform (ap (λ (q : InstanceValue). q.transform) c.here.view_is) c.nodes_at-nodes.result.now c.nodes_at-nodes.ensures
    (bare_transform c.transform_at-transform.result.now) c.transform_at-transform.ensures c.deref.result.now (c.deref.ensures.value ∙ ap (λ (t : TransformValue). t.matrices) c.transform.view_is) c.deref-2.result.now (c.deref-2.ensures.value ∙ ap (λ (q : InstanceValue). q.seats) c.here.view_is) c.args.parts.now made.items h)
