use Rattle.std.proofs.Common.{◌∙◌, ap}
use Rattle.pb_graph.proofs.LayeringLemmas.{is_layering, is_refused, joined_inside_of, layer_low, links_inside_of, lists_low, sides_inside_of}
use Rattle.pb_graph.proofs.ordering.order.Goals as goal

pub layers_of-requires-clause-joined : goal.layers_of-requires-clause-joined
layers_of-requires-clause-joined c = joined_inside_of c.args.ranges.now c.args.nodes.now c.args.reads.now c.args.wide_rules.now _ c.in_ok-found.found.links.items (c.deref.ensures.value ∙ c.in_ok-joined.ensures.found) c.in_ok-found.ensures.links

pub layers_of-requires-clause-edges : goal.layers_of-requires-clause-edges
layers_of-requires-clause-edges c = links_inside_of c.args.ranges.now c.args.nodes.now c.args.reads.now c.args.wide_rules.now c.in_ok-joined.joined.items _ c.in_ok-joined.ensures.found (c.deref-2.ensures.value ∙ c.in_ok-found.ensures.links)

pub cut_layers-requires-clause-edges : goal.cut_layers-requires-clause-edges
cut_layers-requires-clause-edges c =
    sides_inside_of c.args.ranges.now c.args.nodes.now c.args.reads.now c.args.wide_rules.now c.deref.result.now c.deref-2.result.now (c.deref.ensures.value ∙ c.in_ok-joined.ensures.found) (c.deref-2.ensures.value ∙ c.in_ok-found.ensures.links) c.in-Ok.layers c.in-Ok.ensures.found c.deref-in-Ok.result.now c.deref-in-Ok-3.result.now (c.deref-in-Ok.ensures.value ∙ ap (λ l. l.layer) c.layers.view_is) (c.deref-in-Ok-3.ensures.value ∙ c.in_ok-found.ensures.sides)

pub cut_layers-requires-clause-layer : goal.cut_layers-requires-clause-layer
cut_layers-requires-clause-layer c =
    layer_low c.args.ranges.now c.args.nodes.now c.args.reads.now c.args.wide_rules.now c.deref.result.now c.deref-2.result.now (c.deref.ensures.value ∙ c.in_ok-joined.ensures.found) (c.deref-2.ensures.value ∙ c.in_ok-found.ensures.links) c.in-Ok.layers c.in-Ok.ensures.found c.deref-in-Ok.result.now c.deref-in-Ok-2.result.now (c.deref-in-Ok.ensures.value ∙ ap (λ l. l.layer) c.layers.view_is) (c.deref-in-Ok-2.ensures.value ∙ ap (λ l. l.layers) c.layers.view_is)

pub cut_layers-requires-clause-lists : goal.cut_layers-requires-clause-lists
cut_layers-requires-clause-lists c =
    lists_low c.args.ranges.now c.args.nodes.now c.args.reads.now c.args.wide_rules.now c.deref.result.now c.deref-2.result.now (c.deref.ensures.value ∙ c.in_ok-joined.ensures.found) (c.deref-2.ensures.value ∙ c.in_ok-found.ensures.links) c.in-Ok.layers c.in-Ok.ensures.found c.deref-in-Ok-2.result.now (c.deref-in-Ok-2.ensures.value ∙ ap (λ l. l.layers) c.layers.view_is)

pub returns-in_ok-cut-in-Ok-clause-found : goal.returns-in_ok-cut-in-Ok-clause-found
returns-in_ok-cut-in-Ok-clause-found c =
    is_layering c.args.ranges.now c.args.nodes.now c.args.reads.now c.args.wide_rules.now c.deref.result.now c.deref-2.result.now (c.deref.ensures.value ∙ c.in_ok-joined.ensures.found) (c.deref-2.ensures.value ∙ c.in_ok-found.ensures.links) c.in-Ok.layers c.in-Ok.ensures.found c.deref-in-Ok.result.now c.deref-in-Ok-2.result.now c.deref-in-Ok-3.result.now (c.deref-in-Ok.ensures.value ∙ ap (λ l. l.layer) c.layers.view_is) (c.deref-in-Ok-2.ensures.value ∙ ap (λ l. l.layers) c.layers.view_is) (c.deref-in-Ok-3.ensures.value ∙ c.in_ok-found.ensures.sides) _ (ap (λ l. l.layer) c.layers.view_is) c.in_ok-cut-in-Ok.ensures.found c.in_ok-found.ensures.edges

pub returns-in-Err-clause-refused : goal.returns-in-Err-clause-refused
returns-in-Err-clause-refused c =
    is_refused c.args.ranges.now c.args.nodes.now c.args.reads.now c.args.wide_rules.now c.deref.result.now c.deref-2.result.now (c.deref.ensures.value ∙ c.in_ok-joined.ensures.found) (c.deref-2.ensures.value ∙ c.in_ok-found.ensures.links) c.in-Err.refusal c.refused.result c.refused.ensures c.in-Err.ensures.refused
