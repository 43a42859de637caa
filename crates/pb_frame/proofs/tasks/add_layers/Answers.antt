use Rattle.std.proofs.Common.{◌∙◌, List, [], ap, get_or, length, map, arith}
use Rattle.std.specs.Prelude.{None, false}
use Rattle.std.proofs.lemmas.Option.{slice_get-get_or}
use Rattle.pb_graph.specs.Layerings.{LayerValue, LayeringValue}
use Rattle.pb_program.specs.Trees.{bare_transform}
use Rattle.pb_frame.specs.Frames.{blocks, chosen_wides, in_layer, layer_jobs}
use Rattle.pb_frame.specs.declared.part.FramePart.{FramePart}
use Rattle.pb_frame.proofs.ListLemmas.{flat_after, flat_all}
use Rattle.pb_frame.proofs.tasks.add_layers.Goals as goal

pub loop-l-preserved : goal.loop-l-preserved
loop-l-preserved c =
    let t = bare_transform c.args.transform.now in
    let order = c.args.order.now in
    let first = c.args.f.now in
    let now = c.loop-l.f in
    let none : LayerValue = record { steps = []; inner = false; cut_x = None; cut_y = None } in
    let layer = get_or order.layers c.loop-l.l none in
    let there = slice_get-get_or order.layers c.loop-l.l none (omega (arith, c.loop-l-test.true, c.len-l-end.ensures, ap (λ (o : LayeringValue). length o.layers) c.order.view_is)) in
    let inv = c.loop-l.invariant in
    let more = c.in_ok-add_at.ensures in
    record {
      sizes = c.add_at.ensures.sizes ∙ inv.sizes;
      parts = c.add_at.ensures.parts ∙ inv.parts;
      blocks = flat_after (λ n. map (λ b. (n.0, b)) (blocks t n.1 c.args.grain (in_layer order first.parts n.0))) order.layers c.loop-l.l layer first.blocks now.blocks _ _ there inv.blocks (more.blocks layer there) (ap (λ (ps : List FramePart). map (λ b. (c.loop-l.l, b)) (blocks t layer c.args.grain (in_layer order ps c.loop-l.l))) inv.parts);
      wides = flat_after (λ n. map (λ k. (n.0, k)) (chosen_wides t (in_layer order first.parts n.0))) order.layers c.loop-l.l layer first.wides now.wides _ _ there inv.wides more.wides (ap (λ (ps : List FramePart). map (λ k. (c.loop-l.l, k)) (chosen_wides t (in_layer order ps c.loop-l.l))) inv.parts);
      jobs = flat_after (λ n. layer_jobs t c.args.grain (in_layer order first.parts n.0) n) order.layers c.loop-l.l layer first.jobs now.jobs _ _ there inv.jobs (more.jobs layer there) (ap (λ (ps : List FramePart). layer_jobs t c.args.grain (in_layer order ps c.loop-l.l) (c.loop-l.l, layer)) inv.parts);
    }

pub returns-clause-blocks : goal.returns-clause-blocks
returns-clause-blocks c = flat_all (λ n. map (λ b. (n.0, b)) (blocks (bare_transform c.args.transform.now) n.1 c.args.grain (in_layer c.args.order.now c.args.f.now.parts n.0))) c.args.order.now.layers c.loop-l.l c.args.f.now.blocks c.loop-l.f.blocks (omega (arith, c.loop-l-test.false, c.len-l-end.ensures, ap (λ (o : LayeringValue). length o.layers) c.order.view_is)) c.loop-l.invariant.blocks

pub returns-clause-wides : goal.returns-clause-wides
returns-clause-wides c = flat_all (λ n. map (λ k. (n.0, k)) (chosen_wides (bare_transform c.args.transform.now) (in_layer c.args.order.now c.args.f.now.parts n.0))) c.args.order.now.layers c.loop-l.l c.args.f.now.wides c.loop-l.f.wides (omega (arith, c.loop-l-test.false, c.len-l-end.ensures, ap (λ (o : LayeringValue). length o.layers) c.order.view_is)) c.loop-l.invariant.wides

pub returns-clause-jobs : goal.returns-clause-jobs
returns-clause-jobs c = flat_all (λ n. layer_jobs (bare_transform c.args.transform.now) c.args.grain (in_layer c.args.order.now c.args.f.now.parts n.0) n) c.args.order.now.layers c.loop-l.l c.args.f.now.jobs c.loop-l.f.jobs (omega (arith, c.loop-l-test.false, c.len-l-end.ensures, ap (λ (o : LayeringValue). length o.layers) c.order.view_is)) c.loop-l.invariant.jobs
