use Rattle.std.proofs.Common.{◌+◌, ◌<◌, refl, subst, sym, arith}
use Rattle.std.specs.List.{All}
use Rattle.std.proofs.lemmas.List.Elements.{All-push}
use Rattle.pb_graph.proofs.CachedLemmas.{firsts_known, firsts_new, low_in}
use Rattle.pb_graph.proofs.alike.firsts.Goals as goal

pub loop-number-preserved-in-Some : goal.loop-number-preserved-in-Some
loop-number-preserved-in-Some c =
    let l = c.loop-number in
    let found = c.in-Some.ensures in
    let low = low_in c.deref.result.now l.distinct.items l.number c.in-Some.first c.deref.ensures.value l.invariant.distinct found.0 in
    record {
      room = omega (arith, c.in_ok-push.ensures.len);
      distinct = λ k d below. omega (arith, l.invariant.distinct k d below);
      found = firsts_known c.args.axis c.args.nodes.now l.firsts.items _ c.in-Some.first l.invariant.found c.in_ok-push.ensures.items l.number c.index-nodes-number.result l.invariant.room (omega arith) c.index-nodes-number.is low found.1;
    }

pub loop-number-preserved : goal.loop-number-preserved
loop-number-preserved c =
    let l = c.loop-number in
    let n = l.number in
    record {
      room = omega (arith, c.in_ok-push-3.ensures.len);
      distinct = subst (All (λ k. k < n + 1)) (sym c.in_ok-push-2.ensures.items) (All-push (λ k. k < n + 1) l.distinct.items n (λ k d below. omega (arith, l.invariant.distinct k d below)) (omega arith));
      found = firsts_new c.args.axis c.args.nodes.now l.firsts.items _ _ l.invariant.found c.in_ok-push-3.ensures.items n l.invariant.room refl;
    }
