use Rattle.std.proofs.Common.{◌∙◌, ap}
use Rattle.std.specs.List.{enumerate_from, flat_map}
use Rattle.pb_linear.specs.Sizes.{sizes_of}
use Rattle.pb_program.specs.Transforms.{ProgValue}
use Rattle.pb_program.specs.Trees.{bare_prog, bare_transform}
use Rattle.pb_frame.specs.Frames.{FrameValue}
use Rattle.pb_counts.proofs.PlaceLemmas.{some_found, top}
use Rattle.pb_cost.specs.Planned.{rule_calls}
use Rattle.pb_cost.proofs.LookLemmas.{entered, few_rules}
use Rattle.pb_cost.proofs.instance.look.Goals as goal

pub calls_of-requires-clause-sizes : goal.calls_of-requires-clause-sizes
calls_of-requires-clause-sizes c =
    let q = some_found c.args.a.now c.args.t _ c.requires.sizes in
    top c.args.a.now c.prog-prog.ensures.accepted c.args.t c.args.s.now c.requires.sizes c.prog.inside.transforms.items (ap (λ (p : ProgValue). p.transforms) (c.prog.view_is ∙ c.prog-prog.ensures.program)) c.index-transform.result.now c.index-transform.ensures q.0 q.1

pub calls_of-requires-clause-few : goal.calls_of-requires-clause-few
calls_of-requires-clause-few c =
    let q = some_found c.args.a.now c.args.t _ c.requires.sizes in
    few_rules c.args.a.now c.prog-prog.ensures.accepted c.args.t c.args.s.now c.requires.sizes c.prog.inside.transforms.items (ap (λ (p : ProgValue). p.transforms) (c.prog.view_is ∙ c.prog-prog.ensures.program)) c.index-transform.result.now c.index-transform.ensures q.0 q.1

pub returns-clause-calls : goal.returns-clause-calls
returns-clause-calls c =
    let q = some_found c.args.a.now c.args.t _ c.requires.sizes in
    let t = bare_transform c.index-transform.result.now in
    entered c.args.a.now c.prog-prog.ensures.accepted c.args.t c.args.s.now c.requires.sizes c.prog.inside.transforms.items (ap (λ (p : ProgValue). p.transforms) (c.prog.view_is ∙ c.prog-prog.ensures.program)) c.index-transform.result.now c.index-transform.ensures q.0 q.1
    c.args.c.now c.requires.valid 64 c.in_ok-frame.frame c.in_ok-frame.ensures.sizes c.in_ok-frame.ensures.frame c.deref.result.now (c.deref.ensures.value ∙ ap (λ (f : FrameValue). f.parts) c.frame-2.view_is) c.in_ok-calls.calls.items
    (c.in_ok-calls.ensures.calls ∙ ap (λ (pr : ProgValue). flat_map (rule_calls (bare_prog pr) t (sizes_of c.args.s.now) c.deref.result.now) (enumerate_from 0 t.rules)) c.prog-prog.ensures.program)

pub instance_cost-requires-clause-frame : goal.instance_cost-requires-clause-frame
instance_cost-requires-clause-frame c = (64, c.in_ok-frame.ensures.frame)
