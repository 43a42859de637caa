use Rattle.std.proofs.Common.{◌≡◌, ◌∙◌, ap, List, subst, sym}
use Rattle.std.specs.List.{All, AllZip}
use Rattle.pb_linear.specs.Sizes.{sizes_of}
use Rattle.pb_program.specs.Forms.{DeclValue}
use Rattle.pb_program.specs.Transforms.{TransformValue}
use Rattle.pb_views.specs.Layouts.{AreInARow}
use Rattle.pb_steps.specs.Runs.{UnrolledValue}
use Rattle.pb_steps.specs.Values.{InstanceValue}
use Rattle.pb_steps.specs.declared.step.Step.{Step}
use Rattle.pb_run_work.specs.Holding.{CanBeCut, CanBeSeen}
use Rattle.pb_run_work.specs.Running.{ArePieces, HasRoomForStep, IsSight}
use Rattle.pb_run_work.proofs.MakeLemmas.{cut_are, run_is, seen_are, unrolled_is}
use Rattle.pb_run_work.proofs.unrolled.run_of.Goals as goal

pub sights_of-requires : goal.sights_of-requires
sights_of-requires c =
    subst (All (CanBeSeen c.args.a.now)) (sym (c.deref-2.ensures.value ∙ ap (λ (u : UnrolledValue). u.instances) c.unrolled.view_is))
    (seen_are c.args.a.now c.args.c.now c.args.grain c.args.depth c.args.t c.args.inputs.items c.args.s c.args.transform.now c.requires.there c.requires.fitted c.args.unrolled c.args.graph c.requires.begun)

pub all_pieces-requires : goal.all_pieces-requires
all_pieces-requires c =
    let a = c.args.a.now in
    let u = c.args.unrolled in
    let sights = c.in_ok-sights.sights.items in
    let second : c.deref-2.result.now ≡ u.instances = c.deref-2.ensures.value ∙ ap (λ (z : UnrolledValue). z.instances) c.unrolled.view_is in
    let third : u.instances ≡ c.deref-3.result.now = sym (c.deref-3.ensures.value ∙ ap (λ (z : UnrolledValue). z.instances) c.unrolled.view_is) in
    let steps : u.steps ≡ c.deref-4.result.now = sym (c.deref-4.ensures.value ∙ ap (λ (z : UnrolledValue). z.steps) c.unrolled.view_is) in
    subst (λ (z : List InstanceValue × List Step). All (CanBeCut a z.0) z.1) (λ i. (third i, steps i))
    (cut_are a c.args.c.now c.args.grain c.args.depth c.args.t c.args.inputs.items c.args.s c.args.transform.now c.requires.there c.requires.fitted u c.args.graph c.requires.begun sights (subst (λ (z : List InstanceValue). AllZip (IsSight a) z sights) second c.in_ok-sights.ensures))

pub invariant_of-result : goal.invariant_of-result
invariant_of-result c =
    let a = c.args.a.now in
    let u = c.args.unrolled in
    let views = c.in_ok-views.views.items in
    let sights = c.in_ok-sights.sights.items in
    let pieces = c.in_ok-pieces.pieces.items in
    let rooms = c.in_ok-pieces.rooms in
    let matrices : c.deref.result.now ≡ c.args.transform.now.matrices = c.deref.ensures.value ∙ ap (λ (t : TransformValue). t.matrices) c.transform.view_is in
    let second : c.deref-2.result.now ≡ u.instances = c.deref-2.ensures.value ∙ ap (λ (z : UnrolledValue). z.instances) c.unrolled.view_is in
    let third : c.deref-3.result.now ≡ u.instances = c.deref-3.ensures.value ∙ ap (λ (z : UnrolledValue). z.instances) c.unrolled.view_is in
    let steps : c.deref-4.result.now ≡ u.steps = c.deref-4.ensures.value ∙ ap (λ (z : UnrolledValue). z.steps) c.unrolled.view_is in
    run_is a c.args.c.now c.args.grain c.args.depth c.args.t c.args.inputs.items c.args.s c.args.transform.now c.requires.there c.requires.fitted u c.args.graph c.requires.begun
    views (subst (λ (ds : List DeclValue). AreInARow 0 (sizes_of c.args.s) ds views) matrices c.in_ok-views.ensures)
    sights (subst (λ (z : List InstanceValue). AllZip (IsSight a) z sights) second c.in_ok-sights.ensures)
    pieces (subst (λ (z : List InstanceValue × List Step). AllZip (ArePieces a z.0) z.1 pieces) (λ i. (third i, steps i)) c.in_ok-pieces.ensures.pieces)
    rooms (subst (λ (z : List InstanceValue × List Step). All (HasRoomForStep a z.0 rooms) z.1) (λ i. (third i, steps i)) c.in_ok-pieces.ensures.rooms)

pub returns : goal.returns
returns c =
    let a = c.args.a.now in
    let u = c.args.unrolled in
    let views = c.in_ok-views.views.items in
    let sights = c.in_ok-sights.sights.items in
    let pieces = c.in_ok-pieces.pieces.items in
    let rooms = c.in_ok-pieces.rooms in
    let matrices : c.deref.result.now ≡ c.args.transform.now.matrices = c.deref.ensures.value ∙ ap (λ (t : TransformValue). t.matrices) c.transform.view_is in
    let second : c.deref-2.result.now ≡ u.instances = c.deref-2.ensures.value ∙ ap (λ (z : UnrolledValue). z.instances) c.unrolled.view_is in
    let third : c.deref-3.result.now ≡ u.instances = c.deref-3.ensures.value ∙ ap (λ (z : UnrolledValue). z.instances) c.unrolled.view_is in
    let steps : c.deref-4.result.now ≡ u.steps = c.deref-4.ensures.value ∙ ap (λ (z : UnrolledValue). z.steps) c.unrolled.view_is in
    unrolled_is a c.args.c.now c.args.grain c.args.depth c.args.t c.args.inputs.items c.args.s c.args.transform.now c.requires.there c.requires.fitted u c.args.graph c.requires.begun
    views (subst (λ (ds : List DeclValue). AreInARow 0 (sizes_of c.args.s) ds views) matrices c.in_ok-views.ensures)
    sights (subst (λ (z : List InstanceValue). AllZip (IsSight a) z sights) second c.in_ok-sights.ensures)
    pieces (subst (λ (z : List InstanceValue × List Step). AllZip (ArePieces a z.0) z.1 pieces) (λ i. (third i, steps i)) c.in_ok-pieces.ensures.pieces)
    rooms (subst (λ (z : List InstanceValue × List Step). All (HasRoomForStep a z.0 rooms) z.1) (λ i. (third i, steps i)) c.in_ok-pieces.ensures.rooms)
