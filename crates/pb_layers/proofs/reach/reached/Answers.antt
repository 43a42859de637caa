use Rattle.std.proofs.Common.{◌<◌, length, get_or, arith}
use Rattle.pb_layers.specs.Graphs.{Out}
use Rattle.pb_layers.proofs.ReachedLemmas.{found-inside, out-read, reached-next, reached-start}
use Rattle.pb_layers.proofs.reach.reached.Goals as goal

pub followed-init : goal.followed-init
followed-init c = record {
  reached = reached-start (Out c.args.targets.now) _ _ c.args.start _ _ c.new-found.ensures.items c.requires.start c.in_ok-visit.ensures;
  inside = omega arith;
}

pub bounds-targets-node : goal.bounds-targets-node
bounds-targets-node c =
    let below : c.followed.followed < length c.followed.found.items = omega (arith, c.followed.found.ok.0) in
    let inside = found-inside (Out c.args.targets.now) c.args.within.now.items _ _ _ _ _ c.index-node.result.now c.followed.invariant.reached below c.index-node.ensures in
    omega (arith, c.requires.room)

pub visit_all-requires : goal.visit_all-requires
visit_all-requires c = λ k d below.
    let followed : c.followed.followed < length c.followed.found.items = omega (arith, c.followed.found.ok.0) in
    let node = found-inside (Out c.args.targets.now) c.args.within.now.items _ _ _ _ _ c.index-node.result.now c.followed.invariant.reached followed c.index-node.ensures in
    let inside = c.requires.inside c.index-node.result.now (get_or c.nodes.result.now k d) (out-read c.args.targets.now c.index-node.result.now c.nodes.result.now k d (omega (arith, c.requires.room)) c.index-targets-node.result c.index-targets-node.is c.nodes.ensures below) in
    omega (arith, c.followed.invariant.reached.room)

pub followed-preserved : goal.followed-preserved
followed-preserved c =
    let followed : c.followed.followed < length c.followed.found.items = omega (arith, c.followed.found.ok.0) in
    let node = found-inside (Out c.args.targets.now) c.args.within.now.items _ _ _ _ _ c.index-node.result.now c.followed.invariant.reached followed c.index-node.ensures in
    record {
      reached = reached-next c.args.targets.now c.args.within.now.items _ _ c.args.start c.followed.followed c.index-node.result.now _ _ c.nodes.result.now c.index-targets-node.result followed (omega (arith, c.requires.room)) c.index-node.ensures c.index-targets-node.is c.nodes.ensures c.followed.invariant.reached c.in_ok-visit_all.ensures;
      inside = omega (arith, c.in_ok-visit_all.ensures.longer);
    }
