use Rattle.std.proofs.Common.{◌≡◌, ◌∙◌, List, ap, length, map, subst, arith}
use Rattle.std.specs.Prelude.{Some, slice_get}
use Rattle.std.proofs.lemmas.List.{length-map}
use Rattle.pb_linear.specs.Sizes.{InRange, leasts_of, sizes_of}
use Rattle.pb_graph.proofs.NumberedLemmas.{at_index}
use Rattle.pb_program.specs.Transforms.{ProgValue, TransformValue}
use Rattle.pb_program.specs.Trees.{ProgTransform, bare_prog, bare_transform}
use Rattle.pb_region.proofs.RuleLemmas.{held_at}
use Rattle.pb_check.specs.Orders.{AnalysisValue}
use Rattle.pb_frame.specs.Frames.{IsFrame}
use Rattle.pb_frame.proofs.FoundLemmas.{if_ok, instance, numbers_of, of_these, said_of}
use Rattle.pb_frame.proofs.tasks.frame.Goals as goal

pub frame_of-requires : goal.frame_of-requires
frame_of-requires c =
    let v = c.args.a.now in
    let t = bare_transform c.index.result.now in
    let Range = λ (transform : ProgTransform) (found : AnalysisValue). InRange (leasts_of transform.ranges) (sizes_of c.args.s.now) in
    let below = numbers_of v c.args.t Range c.requires.sizes in
    let held : c.behind-a.inside.transforms.items ≡ v.program.transforms = ap (λ (p : ProgValue). p.transforms) (c.behind-a.view_is ∙ c.prog.ensures.program) in
    let there : slice_get (bare_prog v.program) c.args.t ≡ Some t = subst (λ (ts : List TransformValue). slice_get (map bare_transform ts) c.args.t ≡ Some t) held (held_at bare_transform c.behind-a.inside.transforms.items c.args.t c.index.result.now (omega (arith, below.0, ap length held, length-map v.program.transforms bare_transform)) c.index.ensures) in
    let found : slice_get v.found c.args.t ≡ Some c.index-analyses-t.result = subst (λ (l : List AnalysisValue). slice_get l c.args.t ≡ Some c.index-analyses-t.result) c.analyses.ensures (at_index c.analyses.result.now c.args.t c.index-analyses-t.result (omega (arith, below.1, ap length c.analyses.ensures)) c.index-analyses-t.is) in
    record { instance = instance v c.prog.ensures.accepted c.args.t t c.index-analyses-t.result there found (sizes_of c.args.s.now) (said_of v c.prog.ensures.accepted c.args.t t c.index-analyses-t.result there found Range c.requires.sizes) }

pub returns-clause-frame : goal.returns-clause-frame
returns-clause-frame c =
    let v = c.args.a.now in
    let t = bare_transform c.index.result.now in
    let Range = λ (transform : ProgTransform) (found : AnalysisValue). InRange (leasts_of transform.ranges) (sizes_of c.args.s.now) in
    let below = numbers_of v c.args.t Range c.requires.sizes in
    let held : c.behind-a.inside.transforms.items ≡ v.program.transforms = ap (λ (p : ProgValue). p.transforms) (c.behind-a.view_is ∙ c.prog.ensures.program) in
    let there : slice_get (bare_prog v.program) c.args.t ≡ Some t = subst (λ (ts : List TransformValue). slice_get (map bare_transform ts) c.args.t ≡ Some t) held (held_at bare_transform c.behind-a.inside.transforms.items c.args.t c.index.result.now (omega (arith, below.0, ap length held, length-map v.program.transforms bare_transform)) c.index.ensures) in
    let found : slice_get v.found c.args.t ≡ Some c.index-analyses-t.result = subst (λ (l : List AnalysisValue). slice_get l c.args.t ≡ Some c.index-analyses-t.result) c.analyses.ensures (at_index c.analyses.result.now c.args.t c.index-analyses-t.result (omega (arith, below.1, ap length c.analyses.ensures)) c.index-analyses-t.is) in
    if_ok c.frame_of.result c.frame_of.ensures.frame (λ f h. of_these v c.prog.ensures.accepted c.args.t t c.index-analyses-t.result there found (λ transform found. IsFrame c.args.c.now c.args.t transform found c.args.grain f) h)
