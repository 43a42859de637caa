use Rattle.std.proofs.Common.{◌∙◌, ap, get_or, refl}
use Rattle.pb_graph.specs.Nodes.{NodeValue}
use Rattle.pb_program.specs.Forms.{DeclValue}
use Rattle.pb_program.specs.Transforms.{TransformValue}
use Rattle.pb_program.specs.Trees.{bare_transform}
use Rattle.pb_plan.proofs.TaskLemmas.{part_is}
use Rattle.pb_plan.proofs.tasks.part_for.Goals as goal

pub returns : goal.returns
returns c =
    let decl = c.index-decl.result.now in
    let view = c.index-views-node.result in
    part_is (bare_transform c.args.transform.now) c.args.nodes.now c.args.views.now c.args.part.now _ c.requires c.index-nodes-part.result decl view c.index-nodes-part.is
    (c.index-decl.ensures ∙ ap (λ (n : NodeValue). get_or c.transform.inside.matrices.items n.matrix decl) c.node.view_is ∙ ap (λ (t : TransformValue). get_or t.matrices c.index-nodes-part.result.matrix decl) c.transform.view_is)
    (c.index-views-node.is ∙ ap (λ (n : NodeValue). get_or c.args.views.now n.matrix view) c.node.view_is)
    (c.in_ok-copy_of.ensures ∙ ap (λ (d : DeclValue). d.name) c.decl.view_is) refl c.region.ensures
