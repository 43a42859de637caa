use Rattle.std.proofs.Common.{◌∙◌, sym, ap, subst, length}
use Rattle.pb_linear.specs.Sizes.{sizes_of}
use Rattle.pb_linear.specs.declared.sizes.Sizes.{Sizes}
use Rattle.pb_program.specs.Transforms.{TransformValue}
use Rattle.pb_plan.specs.Boxes.{IsReadable}
use Rattle.pb_views.specs.Windows.{AreLaid}
use Rattle.pb_steps.specs.Stands.{AreViewsOf}
use Rattle.pb_steps.specs.Values.{InstanceValue}
use Rattle.pb_steps.proofs.ShowLemmas.{count, laid}
use Rattle.pb_steps.proofs.seats.boxes_in.Goals as goal

pub views_of-requires-clause-count : goal.views_of-requires-clause-count
views_of-requires-clause-count c =
    ap length (c.deref-2.ensures.value ∙ ap (λ (v : InstanceValue). v.seats) c.here.view_is)
    ∙ count c.args.t.now.matrices c.args.here.now c.args.views.now c.requires
    ∙ sym (ap length (c.deref.ensures.value ∙ ap (λ (t : TransformValue). t.matrices) c.t.view_is))

pub view_boxes-requires-clause-laid : goal.view_boxes-requires-clause-laid
view_boxes-requires-clause-laid c =
    let matrices = c.args.t.now.matrices in
    let seats = c.args.here.now.seats in
    let views = c.in_ok-matrices.matrices.items in
    let are : AreViewsOf matrices seats views =
    subst (λ m. AreViewsOf m seats views) (c.deref.ensures.value ∙ ap (λ (t : TransformValue). t.matrices) c.t.view_is)
    (subst (λ s. AreViewsOf c.deref.result.now s views) (c.deref-2.ensures.value ∙ ap (λ (v : InstanceValue). v.seats) c.here.view_is) c.in_ok-matrices.ensures) in
    subst (λ m. AreLaid m (sizes_of c.here.inside.sizes) c.deref-4.result.now) (sym (c.deref-3.ensures.value ∙ ap (λ (t : TransformValue). t.matrices) c.t.view_is))
    (subst (λ (z : Sizes). AreLaid matrices (sizes_of z) c.deref-4.result.now) (sym (ap (λ (v : InstanceValue). v.sizes) c.here.view_is))
    (subst (AreLaid matrices (sizes_of c.args.here.now.sizes)) (sym c.deref-4.ensures.value) (laid matrices c.args.here.now c.args.views.now c.requires views are)))

pub view_boxes-requires-clause-readable : goal.view_boxes-requires-clause-readable
view_boxes-requires-clause-readable c =
    subst (λ m. IsReadable m (sizes_of c.here.inside.sizes) c.args.views.now 0 0) (sym (c.deref-3.ensures.value ∙ ap (λ (t : TransformValue). t.matrices) c.t.view_is))
    (subst (λ (z : Sizes). IsReadable c.args.t.now.matrices (sizes_of z) c.args.views.now 0 0) (sym (ap (λ (v : InstanceValue). v.sizes) c.here.view_is)) c.requires.can.readable)
