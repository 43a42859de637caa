use Rattle.std.proofs.Common.{◌∙◌, ℕ, ap, false, get_or, arith}
use Rattle.std.proofs.lemmas.Option.{slice_get-get_or}
use Rattle.pb_layers.specs.declared.layers.Layer.{Layer}
use Rattle.pb_graph.specs.Cuts.{allowed_at, layer_by}
use Rattle.pb_graph.proofs.CutLemmas.{sides_read}
use Rattle.pb_graph.proofs.NumberedLemmas.{map_end, map_next}
use Rattle.pb_graph.proofs.cuts.cut_layers.Goals as goal

pub loop-place-preserved : goal.loop-place-preserved
loop-place-preserved c =
    let place = c.loop-place.place in
    let layers = c.args.layers.now in
    let none : Layer = record { list = 0; inner = false } in
    let allowed = c.in_ok-allowed.ensures in
    let read = sides_read c.in_ok-allowed.allowed.items place c.index.result.now _ c.index.ensures (omega (arith, allowed.room)) (allowed.found place (omega arith)) in
    map_next (λ (m : ℕ × Layer). layer_by (allowed_at c.args.layer.now m.0 c.args.edges.now) m.1) layers place _ c.loop-place.invariant (get_or layers place none) _ c.in_ok-layer_by.field-0 (slice_get-get_or layers place none (omega arith)) c.in_ok-push.ensures.items (c.in_ok-layer_by.ensures.found ∙ ap (λ s. layer_by s (get_or layers place none)) read)

pub returns-clause-found : goal.returns-clause-found
returns-clause-found c = map_end (λ (m : ℕ × Layer). layer_by (allowed_at c.args.layer.now m.0 c.args.edges.now) m.1) c.args.layers.now c.loop-place.place _ c.loop-place.invariant (omega arith)
