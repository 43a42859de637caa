use Rattle.std.proofs.Common.{◌≡◌, ◌∙◌, List, ap, arith, length, subst, sym, take}
use Rattle.std.specs.List.{All}
use Rattle.pb_linear.specs.Sizes.{sizes_of}
use Rattle.pb_linear.specs.declared.sizes.Sizes.{Sizes}
use Rattle.pb_program.specs.Forms.{DeclValue}
use Rattle.pb_program.specs.Transforms.{TransformValue}
use Rattle.pb_program.specs.Trees.{bare_transform}
use Rattle.pb_frame.specs.Frames.{FrameValue}
use Rattle.pb_links.specs.Spots.{AllWithin}
use Rattle.pb_views.specs.Layouts.{HasShortSides}
use Rattle.pb_plan.proofs.ReadyLemmas.{given_short}
use Rattle.pb_plan.proofs.planned.graph_of.Goals as goal

pub links-requires-clause-bases : goal.links-requires-clause-bases
links-requires-clause-bases c =
    let same : c.len-2.result ≡ length c.args.transform.now.matrices = omega (arith, c.len-2.ensures, ap length c.deref.ensures.value, ap (λ (t : TransformValue). length t.matrices) c.transform.view_is) in
    subst (λ n. All (AllWithin n) c.args.places.now) (sym same) c.requires.ready.bases

pub cell_count-inputs-requires-clause-sides : goal.cell_count-inputs-requires-clause-sides
cell_count-inputs-requires-clause-sides c =
    let t = c.args.transform.now in
    let f = c.args.frame.now in
    let sizes : c.frame.inside.sizes ≡ f.sizes = ap (λ (v : FrameValue). v.sizes) c.frame.view_is in
    let given : take c.transform.inside.inputs c.deref.result.now ≡ take t.inputs t.matrices = ap (take c.transform.inside.inputs) c.deref.ensures.value ∙ ap (λ (v : TransformValue). take v.inputs v.matrices) c.transform.view_is in
    subst (λ (ds : List DeclValue). All (HasShortSides (sizes_of c.frame.inside.sizes)) ds) (sym given) (subst (λ (s : Sizes). All (HasShortSides (sizes_of s)) (take t.inputs t.matrices)) (sym sizes) (given_short (bare_transform t) c.args.nodes.now f c.args.views.now c.args.places.now c.requires.ready))
