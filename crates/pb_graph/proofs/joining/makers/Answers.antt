use Rattle.std.proofs.Common.{◌∙◌, ℕ, sym, arith}
use Rattle.pb_graph.specs.Edges.{is_among}
use Rattle.pb_graph.specs.Nodes.{NodeValue}
use Rattle.pb_graph.proofs.NumberedLemmas.{at_index, numbered_dropped, numbered_end, numbered_kept}
use Rattle.pb_graph.proofs.joining.makers.Goals as goal

pub loop-number-preserved-then-not-makes : goal.loop-number-preserved-then-not-makes
loop-number-preserved-then-not-makes c =
    numbered_dropped (λ u. u.0) (λ (u : ℕ × NodeValue). is_among u.1.rules c.args.rule) c.args.nodes.now c.loop-number.number _ c.loop-number.invariant c.index-nodes-number.result (at_index c.args.nodes.now c.loop-number.number c.index-nodes-number.result (omega arith) c.index-nodes-number.is) (sym c.makes.ensures ∙ c.if-not-makes.true)

pub loop-number-preserved : goal.loop-number-preserved
loop-number-preserved c =
    numbered_kept (λ u. u.0) (λ (u : ℕ × NodeValue). is_among u.1.rules c.args.rule) c.args.nodes.now c.loop-number.number _ c.loop-number.invariant c.index-nodes-number.result _ (at_index c.args.nodes.now c.loop-number.number c.index-nodes-number.result (omega arith) c.index-nodes-number.is) (sym c.makes.ensures ∙ c.if-not-makes.false) c.in_ok-push.ensures.items

pub returns-clause-found : goal.returns-clause-found
returns-clause-found c = numbered_end (λ u. u.0) (λ (u : ℕ × NodeValue). is_among u.1.rules c.args.rule) c.args.nodes.now c.loop-number.number _ c.loop-number.invariant (omega arith)
