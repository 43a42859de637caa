use Rattle.std.proofs.Common.{◌≡◌, ◌∙◌, ◌++◌, ◌+◌, List, ap, get_or, length, map, sym, arith}
use Rattle.std.specs.Prelude.{Some, slice_get}
use Rattle.std.specs.List.{range_with_len}
use Rattle.std.proofs.lemmas.List.{length-map}
use Rattle.std.proofs.lemmas.List.FromFn.{length-range_with_len}
use Rattle.pb_graph.specs.Layerings.{LayerValue, LayeringValue}
use Rattle.pb_graph.proofs.NumberedLemmas.{at_index}
use Rattle.pb_program.specs.Trees.{bare_transform}
use Rattle.pb_check.proofs.FirstLemmas.{some_same}
use Rattle.pb_frame.specs.Frames.{blocks, chosen_wides, in_layer, layer_jobs}
use Rattle.pb_frame.specs.declared.part.FramePart.{FramePart}
use Rattle.pb_frame.proofs.LayerLemmas.{at_of}
use Rattle.pb_frame.proofs.ListLemmas.{on_ok}
use Rattle.pb_frame.proofs.tasks.add_at.Goals as goal

pub bounds-layers-l : goal.bounds-layers-l
bounds-layers-l c = omega (arith, ap length c.requires.layers, length-map (range_with_len 0 (length c.args.order.now.layers)) (in_layer c.args.order.now c.args.f.now.parts), length-range_with_len 0 (length c.args.order.now.layers), c.requires.there)

pub returns-clause-blocks : goal.returns-clause-blocks
returns-clause-blocks c =
    let t = bare_transform c.args.transform.now in
    let order = c.args.order.now in
    let old = c.args.f.now in
    let is : c.parts.result.now ≡ in_layer order old.parts c.args.l =
    c.parts.ensures ∙ c.index-layers-l.is ∙ ap (λ (ls : List (List FramePart)). get_or ls c.args.l c.index-layers-l.result) c.requires.layers
    ∙ at_of (in_layer order old.parts) (in_layer order old.parts) 0 (length order.layers) c.args.l c.index-layers-l.result c.requires.there ∙ (let e : 0 + c.args.l ≡ c.args.l = omega arith in ap (in_layer order old.parts) e) in
    let there : slice_get order.layers c.args.l ≡ Some c.index.result.now =
    at_index order.layers c.args.l c.index.result.now c.requires.there (c.index.ensures ∙ ap (λ (o : LayeringValue). get_or o.layers c.args.l c.index.result.now) c.order.view_is) in
    on_ok c.add_layer.result c.add_layer.ensures.blocks (λ e layer at.
    e ∙ ap (λ (ps : List FramePart). old.blocks ++ map (λ b. (c.args.l, b)) (blocks t c.index.result.now c.args.grain ps)) is
    ∙ ap (λ (l : LayerValue). old.blocks ++ map (λ b. (c.args.l, b)) (blocks t l c.args.grain (in_layer order old.parts c.args.l))) (some_same c.index.result.now layer (sym there ∙ at)))

pub returns-clause-wides : goal.returns-clause-wides
returns-clause-wides c =
    let t = bare_transform c.args.transform.now in
    let order = c.args.order.now in
    let old = c.args.f.now in
    let is : c.parts.result.now ≡ in_layer order old.parts c.args.l =
    c.parts.ensures ∙ c.index-layers-l.is ∙ ap (λ (ls : List (List FramePart)). get_or ls c.args.l c.index-layers-l.result) c.requires.layers
    ∙ at_of (in_layer order old.parts) (in_layer order old.parts) 0 (length order.layers) c.args.l c.index-layers-l.result c.requires.there ∙ (let e : 0 + c.args.l ≡ c.args.l = omega arith in ap (in_layer order old.parts) e) in
    on_ok c.add_layer.result c.add_layer.ensures.wides (λ e. e ∙ ap (λ (ps : List FramePart). old.wides ++ map (λ k. (c.args.l, k)) (chosen_wides t ps)) is)

pub returns-clause-jobs : goal.returns-clause-jobs
returns-clause-jobs c =
    let t = bare_transform c.args.transform.now in
    let order = c.args.order.now in
    let old = c.args.f.now in
    let is : c.parts.result.now ≡ in_layer order old.parts c.args.l =
    c.parts.ensures ∙ c.index-layers-l.is ∙ ap (λ (ls : List (List FramePart)). get_or ls c.args.l c.index-layers-l.result) c.requires.layers
    ∙ at_of (in_layer order old.parts) (in_layer order old.parts) 0 (length order.layers) c.args.l c.index-layers-l.result c.requires.there ∙ (let e : 0 + c.args.l ≡ c.args.l = omega arith in ap (in_layer order old.parts) e) in
    let there : slice_get order.layers c.args.l ≡ Some c.index.result.now =
    at_index order.layers c.args.l c.index.result.now c.requires.there (c.index.ensures ∙ ap (λ (o : LayeringValue). get_or o.layers c.args.l c.index.result.now) c.order.view_is) in
    on_ok c.add_layer.result c.add_layer.ensures.jobs (λ e layer at.
    e ∙ ap (λ (ps : List FramePart). old.jobs ++ layer_jobs t c.args.grain ps (c.args.l, c.index.result.now)) is
    ∙ ap (λ (l : LayerValue). old.jobs ++ layer_jobs t c.args.grain (in_layer order old.parts c.args.l) (c.args.l, l)) (some_same c.index.result.now layer (sym there ∙ at)))
