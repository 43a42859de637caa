use Rattle.std.proofs.Common.{◌∙◌, ℕ, List, ap, length, map, subst, sym, arith}
use Rattle.std.specs.Prelude.{slice_index, ◌<◌}
use Rattle.std.specs.List.{All, enumerate_from, flat_map}
use Rattle.std.proofs.lemmas.List.{length-map}
use Rattle.pb_linear.specs.Sizes.{sizes_of}
use Rattle.pb_graph.specs.Layerings.{LayerValue, LayeringValue}
use Rattle.pb_program.specs.Trees.{bare_rule, bare_transform}
use Rattle.pb_frame.specs.Frames.{blocks, chosen_wides, in_layer, layer_jobs, parts_of}
use Rattle.pb_frame.specs.declared.part.FramePart.{FramePart}
use Rattle.pb_frame.proofs.ListLemmas.{from_empty}
use Rattle.pb_frame.proofs.PartLemmas.{few_layers, part_below, part_inside, rules_few}
use Rattle.pb_frame.proofs.tasks.frame_of.Goals as goal

pub by_layer-requires-clause-inside : goal.by_layer-requires-clause-inside
by_layer-requires-clause-inside c =
    let t = bare_transform c.args.transform.now in
    let sizes = sizes_of c.args.s.now in
    subst (λ (o : LayeringValue). All (λ (p : FramePart). p.node < length o.layer) c.deref.result.now) (sym c.order-order.ensures)
    (part_inside c.args.t t c.args.found.now sizes c.requires.instance c.args.c.now c.deref.result.now (c.deref.ensures.value ∙ c.in_ok-parts.ensures))

pub by_layer-requires-clause-below : goal.by_layer-requires-clause-below
by_layer-requires-clause-below c =
    let t = bare_transform c.args.transform.now in
    let sizes = sizes_of c.args.s.now in
    subst (λ (o : LayeringValue). All (λ (p : FramePart). slice_index o.layer p.node < length o.layers) c.deref.result.now) (sym c.order-order.ensures)
    (part_below c.args.t t c.args.found.now sizes c.requires.instance c.args.c.now c.deref.result.now (c.deref.ensures.value ∙ c.in_ok-parts.ensures))

pub add_layers-requires-clause-few : goal.add_layers-requires-clause-few
add_layers-requires-clause-few c = omega (arith, rules_few c.args.t (bare_transform c.args.transform.now) c.args.found.now (sizes_of c.args.s.now) c.requires.instance, length-map c.args.transform.now.rules bare_rule)

pub add_layers-requires-clause-short : goal.add_layers-requires-clause-short
add_layers-requires-clause-short c = omega (arith, few_layers c.args.t (bare_transform c.args.transform.now) c.args.found.now (sizes_of c.args.s.now) c.requires.instance, ap (λ (o : LayeringValue). length o.layers) c.order-order.ensures)

pub returns-clause-frame : goal.returns-clause-frame
returns-clause-frame c =
    let t = bare_transform c.args.transform.now in
    let found = c.args.found.now in
    let f = c.add_layers.new.f in
    let grain = c.args.grain in
    let more = c.in_ok-add_layers.ensures in
    let parts = c.add_layers.ensures.parts in
    let old = c.in_ok-parts.parts.items in
    let blocks_by = λ (o : LayeringValue) (ps : List FramePart). flat_map (λ (l : ℕ × LayerValue). map (λ b. (l.0, b)) (blocks t l.1 grain (in_layer o ps l.0))) (enumerate_from 0 o.layers) in
    let wides_by = λ (o : LayeringValue) (ps : List FramePart). flat_map (λ (l : ℕ × LayerValue). map (λ k. (l.0, k)) (chosen_wides t (in_layer o ps l.0))) (enumerate_from 0 o.layers) in
    let jobs_by = λ (o : LayeringValue) (ps : List FramePart). flat_map (λ (l : ℕ × LayerValue). layer_jobs t grain (in_layer o ps l.0) l) (enumerate_from 0 o.layers) in
    record {
      parts = parts ∙ c.in_ok-parts.ensures ∙ ap (λ s. parts_of c.args.c.now c.args.t t (sizes_of s) found.nodes) (sym c.add_layers.ensures.sizes);
      blocks = from_empty c.new.result.items (blocks_by c.order-order.result.now old) f.blocks c.new.ensures.items more.blocks ∙ ap (λ (o : LayeringValue). blocks_by o old) c.order-order.ensures ∙ ap (blocks_by found.order) (sym parts);
      wides = from_empty c.new-2.result.items (wides_by c.order-order.result.now old) f.wides c.new-2.ensures.items more.wides ∙ ap (λ (o : LayeringValue). wides_by o old) c.order-order.ensures ∙ ap (wides_by found.order) (sym parts);
      jobs = from_empty c.new-3.result.items (jobs_by c.order-order.result.now old) f.jobs c.new-3.ensures.items more.jobs ∙ ap (λ (o : LayeringValue). jobs_by o old) c.order-order.ensures ∙ ap (jobs_by found.order) (sym parts);
    }
