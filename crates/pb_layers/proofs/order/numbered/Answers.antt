use Rattle.std.proofs.Common.{◌∙◌, ◌<◌, ℕ, ap, map, slice_index, arith}
use Rattle.pb_layers.proofs.NumberLemmas.{keys-as, layer-low, lists-as, low-as, marked-as, numbered-is, places-as}
use Rattle.pb_layers.proofs.order.numbered.Goals as goal

pub mark_inner-requires-clause-layer : goal.mark_inner-requires-clause-layer
mark_inner-requires-clause-layer c =
    let least = c.args.components.now.least.items in
    let depth = c.args.components.now.depth.items in
    let keys = keys-as least depth c.deref.result.now c.deref-2.result.now c.args.nodes c.in_ok-keys.keys.items c.deref.ensures.value c.deref-2.ensures.value c.requires.least c.in_ok-keys.ensures.keys in
    let places = places-as c.in_ok-keys.keys.items c.deref-3.result.now c.in_ok-places.places.items c.deref-3.ensures.value c.in_ok-places.ensures.is in
    let layer = c.in_ok-layer.ensures ∙ ap (λ ps. map (slice_index ps) c.deref-4.result.now) c.deref-5.ensures.value ∙ ap (map (slice_index c.in_ok-places.places.items)) c.deref-4.ensures.value in
    let lists = lists-as c.in_ok-keys.keys.items c.deref-6.result.now c.args.lists.now c.in_ok-layers.layers.items c.deref-6.ensures.value c.in_ok-layers.ensures in
    let inside = λ (u : ℕ) (below : u < c.args.nodes). c.requires.inside u 0 (omega (arith, c.requires.least)) in
    low-as _ c.deref-7.result.now _ c.deref-7.ensures.value (layer-low c.args.edges.now c.args.nodes least depth c.args.lists.now c.in_ok-keys.keys.items c.in_ok-places.places.items c.in_ok-layer.layer.items c.in_ok-layers.layers.items c.requires.least inside c.requires.roots c.requires.edges keys c.in_ok-keys.ensures.rising places layer lists)

pub returns : goal.returns
returns c =
    let least = c.args.components.now.least.items in
    let depth = c.args.components.now.depth.items in
    let keys = keys-as least depth c.deref.result.now c.deref-2.result.now c.args.nodes c.in_ok-keys.keys.items c.deref.ensures.value c.deref-2.ensures.value c.requires.least c.in_ok-keys.ensures.keys in
    let places = places-as c.in_ok-keys.keys.items c.deref-3.result.now c.in_ok-places.places.items c.deref-3.ensures.value c.in_ok-places.ensures.is in
    let layer = c.in_ok-layer.ensures ∙ ap (λ ps. map (slice_index ps) c.deref-4.result.now) c.deref-5.ensures.value ∙ ap (map (slice_index c.in_ok-places.places.items)) c.deref-4.ensures.value in
    let lists = lists-as c.in_ok-keys.keys.items c.deref-6.result.now c.args.lists.now c.in_ok-layers.layers.items c.deref-6.ensures.value c.in_ok-layers.ensures in
    let inside = λ (u : ℕ) (below : u < c.args.nodes). c.requires.inside u 0 (omega (arith, c.requires.least)) in
    numbered-is c.args.edges.now c.args.nodes least depth c.args.lists.now c.in_ok-keys.keys.items c.in_ok-places.places.items c.in_ok-layer.layer.items c.in_ok-layers.layers.items c.requires.least inside c.requires.roots c.requires.edges keys c.in_ok-keys.ensures.rising places layer lists c.mark_inner.new.layers.items (marked-as c.args.edges.now _ c.deref-7.result.now _ _ c.deref-7.ensures.value c.mark_inner.ensures)
