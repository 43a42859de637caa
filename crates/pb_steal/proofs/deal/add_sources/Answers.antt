use Rattle.std.proofs.Common.{◌∙◌, ◌<◌, List, ap, arith, length}
use Rattle.std.specs.List.{sum_by}
use Rattle.std.proofs.lemmas.List.{length-map}
use Rattle.pb_steal.specs.Crews.{deques_of}
use Rattle.pb_steal.specs.Deques.{SourceValue}
use Rattle.pb_steal.proofs.DealLemmas.{part-more, source-at, took-more}
use Rattle.pb_steal.proofs.deal.add_sources.Goals as goal

pub loop-place-preserved : goal.loop-place-preserved
loop-place-preserved g c =
    let sources : List SourceValue = c.args.sources.now.items in
    let k = c.loop-place.place in
    let source : SourceValue = c.in_ok-again.field-0 in
    let below : k < length sources = omega (arith, c.loop-place-test.true, c.requires.inside) in
    record {
      past = omega (arith, c.loop-place.invariant.past);
      deques = ap deques_of c.in_ok-push.ensures.items
          ∙ part-more (deques_of c.args.others.now.items) c.loop-place.others.items source (deques_of sources) c.args.first k c.loop-place.invariant.past (omega (arith, below, length-map sources (λ (s : SourceValue). s.deque))) c.loop-place.invariant.deques
          (source-at sources k c.index.result.now source.deque below c.index.ensures c.in_ok-again.ensures.deque);
      took = ap (sum_by (λ (s : SourceValue). s.took)) c.in_ok-push.ensures.items ∙ took-more c.loop-place.others.items source c.in_ok-again.ensures.took ∙ c.loop-place.invariant.took;
    }
