use Rattle.std.proofs.Common.{◌∙◌, ◌<◌, List, ap, arith, length, map}
use Rattle.std.proofs.lemmas.List.{length-map}
use Rattle.pb_steal.specs.Crews.{deques_of}
use Rattle.pb_steal.specs.Deques.{OwnValue, SourceValue}
use Rattle.pb_steal.proofs.DealLemmas.{deque-more, own-at}
use Rattle.pb_steal.proofs.deal.sources.Goals as goal

pub loop-place-preserved : goal.loop-place-preserved
loop-place-preserved g c =
    let owns : List OwnValue = c.args.owns.now.items in
    let k = c.loop-place.place in
    let source : SourceValue = c.in_ok-source.field-0 in
    let below : k < length owns = omega (arith, c.loop-place-test.true, c.len-place-end.ensures) in
    ap deques_of c.in_ok-push.ensures.items
    ∙ deque-more (λ (s : SourceValue). s.deque) c.loop-place.sources.items source (map (λ (o : OwnValue). o.deque) owns) k (omega (arith, below, length-map owns (λ (o : OwnValue). o.deque))) c.loop-place.invariant
    (own-at owns k c.index.result.now source.deque below c.index.ensures c.in_ok-source.ensures.deque)
