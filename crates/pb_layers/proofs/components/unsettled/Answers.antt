use Rattle.pb_layers.proofs.NamedLemmas.{named-none}
use Rattle.pb_layers.proofs.components.unsettled.Goals as goal

pub returns : goal.returns
returns c = λ targets inside. named-none targets c.args.nodes c.in_ok-vec-3.field-0.items c.in_ok-vec-4.field-0.items c.in_ok-vec.field-0.items c.in_ok-vec-2.field-0.items inside (c.in_ok-vec-3.ensures.items_if_clones_equal (λ y e. e)) (c.in_ok-vec-4.ensures.items_if_clones_equal (λ y e. e)) (c.in_ok-vec.ensures.items_if_clones_equal (λ y e. e)) (c.in_ok-vec-2.ensures.items_if_clones_equal (λ y e. e))
