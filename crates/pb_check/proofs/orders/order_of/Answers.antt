use Rattle.std.proofs.Common.{length, subst, sym}
use Rattle.std.specs.List.{All}
use Rattle.pb_graph.specs.Small.{IsSmallRead}
use Rattle.pb_program.specs.Trees.{bare_prog, bare_transform}
use Rattle.pb_program.specs.WellFormed.{IsTransform}
use Rattle.pb_region.proofs.SmallLemmas.{at_place, small_transform}
use Rattle.pb_check.proofs.EndLemmas.{few_nodes, small_areas, small_made}
use Rattle.pb_check.proofs.orders.order_of.Goals as goal

pub order-requires-clause-few : goal.order-requires-clause-few
order-requires-clause-few c =
    let p = bare_prog c.args.p.now in
    let t = bare_transform c.args.transform.now in
    few_nodes (length p) t (at_place (IsTransform (length p)) p c.args.t t c.requires.well_formed.transforms c.requires.there) (small_transform p c.requires.well_formed c.args.t t c.requires.there).ranges c.args.nodes.now c.requires.nodes

pub order-requires-clause-areas : goal.order-requires-clause-areas
order-requires-clause-areas c =
    let p = bare_prog c.args.p.now in
    let t = bare_transform c.args.transform.now in
    small_areas (length p) t (at_place (IsTransform (length p)) p c.args.t t c.requires.well_formed.transforms c.requires.there) (small_transform p c.requires.well_formed c.args.t t c.requires.there).ranges c.args.nodes.now c.requires.nodes

pub order-requires-clause-reads : goal.order-requires-clause-reads
order-requires-clause-reads c =
    let p = bare_prog c.args.p.now in
    let t = bare_transform c.args.transform.now in
    subst (All IsSmallRead) (sym c.deref.ensures.value)
    (small_made (length p) t (at_place (IsTransform (length p)) p c.args.t t c.requires.well_formed.transforms c.requires.there) c.requires.bounded c.in_ok-reads.reads.items c.in_ok-reads.ensures.found)
