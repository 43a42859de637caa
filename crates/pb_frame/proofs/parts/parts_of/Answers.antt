use Rattle.std.proofs.Common.{◌≡◌, List, ap, length, subst, arith}
use Rattle.std.specs.Prelude.{Some, slice_get}
use Rattle.pb_graph.specs.Nodes.{NodeValue}
use Rattle.pb_graph.proofs.NumberedLemmas.{at_index, numbered_end}
use Rattle.pb_frame.specs.Frames.{has_cell, part_of}
use Rattle.pb_frame.proofs.ListLemmas.{numbered_if}
use Rattle.std.proofs.lemmas.List.{length-map}
use Rattle.pb_linear.specs.Sizes.{sizes_of}
use Rattle.pb_program.specs.Trees.{bare_rule, bare_transform}
use Rattle.pb_frame.proofs.PartLemmas.{few, rules_few, rules_small, top_of}
use Rattle.pb_frame.proofs.parts.parts_of.Goals as goal

pub met_of-requires-clause-sizes : goal.met_of-requires-clause-sizes
met_of-requires-clause-sizes c = top_of c.args.t (bare_transform c.args.transform.now) c.args.found.now c.args.s.now c.requires.instance

pub add_part-requires-clause-sizes : goal.add_part-requires-clause-sizes
add_part-requires-clause-sizes c = top_of c.args.t (bare_transform c.args.transform.now) c.args.found.now c.args.s.now c.requires.instance

pub met_of-requires-clause-few : goal.met_of-requires-clause-few
met_of-requires-clause-few c = omega (arith, rules_few c.args.t (bare_transform c.args.transform.now) c.args.found.now (sizes_of c.args.s.now) c.requires.instance, length-map c.args.transform.now.rules bare_rule)

pub met_of-requires-clause-small : goal.met_of-requires-clause-small
met_of-requires-clause-small c = rules_small c.args.t (bare_transform c.args.transform.now) c.args.found.now (sizes_of c.args.s.now) c.requires.instance

pub overflow_cast-k : goal.overflow_cast-k
overflow_cast-k c = omega (arith, c.loop-k-test.true, ap length c.nodes-node-items.ensures, few c.args.t (bare_transform c.args.transform.now) c.args.found.now (sizes_of c.args.s.now) c.requires.instance)

pub add_part-requires-clause-node : goal.add_part-requires-clause-node
add_part-requires-clause-node c = subst (λ (ns : List NodeValue). slice_get ns c.loop-k.k ≡ Some c.node-item.result) c.nodes-node-items.ensures (at_index c.nodes-node-items.result.now c.loop-k.k c.node-item.result c.loop-k-test.true c.node-item.is)

pub loop-k-preserved : goal.loop-k-preserved
loop-k-preserved c =
    let t = bare_transform c.args.transform.now in
    let sizes = sizes_of c.args.s.now in
    let there = subst (λ (ns : List NodeValue). slice_get ns c.loop-k.k ≡ Some c.node-item.result) c.nodes-node-items.ensures (at_index c.nodes-node-items.result.now c.loop-k.k c.node-item.result c.loop-k-test.true c.node-item.is) in
    numbered_if (part_of c.args.c.now c.args.t t sizes) (has_cell sizes) c.args.found.now.nodes c.loop-k.k c.node-item.result c.loop-k.parts.items c.add_part.new.parts.items there c.loop-k.invariant c.in_ok-add_part.ensures

pub returns : goal.returns
returns c =
    numbered_end (part_of c.args.c.now c.args.t (bare_transform c.args.transform.now) (sizes_of c.args.s.now)) (has_cell (sizes_of c.args.s.now)) c.args.found.now.nodes c.loop-k.k c.loop-k.parts.items c.loop-k.invariant (omega (arith, c.loop-k-test.false, ap length c.nodes-node-items.ensures))
