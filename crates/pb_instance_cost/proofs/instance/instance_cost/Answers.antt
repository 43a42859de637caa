use Rattle.std.proofs.Common.{◌∙◌, ap, sym, subst}
use Rattle.pb_linear.specs.Sizes.{InRange, leasts_of, sizes_of}
use Rattle.pb_program.specs.Transforms.{ProgValue}
use Rattle.pb_program.specs.Trees.{ProgTransform, bare_transform}
use Rattle.pb_check.specs.Orders.{AnalysisValue}
use Rattle.pb_frame.specs.Frames.{FrameValue}
use Rattle.pb_frame.proofs.FoundLemmas.{if_ok}
use Rattle.pb_instance_cost.specs.Parts.{CanShowParts, parts_shown}
use Rattle.pb_instance_cost.proofs.TopLemmas.{can_show, found_there, total}
use Rattle.pb_instance_cost.proofs.instance.instance_cost.Goals as goal

pub cost_of-requires : goal.cost_of-requires
cost_of-requires c =
    let v = c.args.a.now in
    let x = c.index.result.now in
    let there = found_there v c.args.t (λ (transform : ProgTransform) (found : AnalysisValue). InRange (leasts_of transform.ranges) (sizes_of c.args.s.now)) c.requires.sizes c.behind-a.inside.transforms.items x (ap (λ (p : ProgValue). p.transforms) (c.behind-a.view_is ∙ c.prog.ensures.program)) c.index.ensures in
    subst (CanShowParts (bare_transform x) c.args.s.now) (sym (c.deref.ensures.value ∙ ap (λ (f : FrameValue). f.parts) c.frame.view_is))
    (can_show v c.prog.ensures.accepted c.args.c.now c.args.t (bare_transform x) there c.args.s.now c.args.frame.now c.requires.valid c.requires.sizes c.requires.of_sizes c.requires.frame)

pub returns : goal.returns
returns c =
    let v = c.args.a.now in
    let x = c.index.result.now in
    let there = found_there v c.args.t (λ (transform : ProgTransform) (found : AnalysisValue). InRange (leasts_of transform.ranges) (sizes_of c.args.s.now)) c.requires.sizes c.behind-a.inside.transforms.items x (ap (λ (p : ProgValue). p.transforms) (c.behind-a.view_is ∙ c.prog.ensures.program)) c.index.ensures in
    if_ok c.cost_of.result c.cost_of.ensures (λ n h. total v c.prog.ensures.accepted c.args.c.now c.args.t (bare_transform x) there c.args.s.now c.args.frame.now c.requires.valid c.requires.sizes c.requires.of_sizes c.requires.frame n
    (h ∙ ap (parts_shown (bare_transform x) (sizes_of c.args.s.now)) (c.deref.ensures.value ∙ ap (λ (f : FrameValue). f.parts) c.frame.view_is)))
