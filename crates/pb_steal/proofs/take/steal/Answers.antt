use Rattle.std.proofs.Common.{◌∙◌, ◌<◌, arith, length, length-set}
use Rattle.std.proofs.lemmas.List.{get_or-set_other}
use Rattle.pb_steal.specs.Deques.{FindsNone}
use Rattle.pb_steal.proofs.TakeLemmas.{tried-more, tried-same, tried-took, zip-each}
use Rattle.pb_steal.proofs.take.steal.Goals as goal

pub returns-in-Some : goal.returns-in-Some
returns-in-Some g c =
    let l = c.loop-place in
    let below : l.place < length l.others.items = omega (arith, l.invariant.size, c.loop-place-test.true) in (
      tried-same c.args.others.now.items l.others.items l.place c.index_mut.result.now c.steal.new.self below c.index_mut.ensures.value l.invariant.same c.in-Some.ensures.0,
      tried-took c.args.others.now.items l.others.items l.place c.index_mut.result.now c.steal.new.self below c.index_mut.ensures.value 1 l.invariant.took c.in-Some.ensures.1,
    )

pub loop-place-preserved : goal.loop-place-preserved
loop-place-preserved g c =
    let l = c.loop-place in
    let none = c.in_default.ensures in
    let below : l.place < length l.others.items = omega (arith, l.invariant.size, c.loop-place-test.true) in
    record {
      size = length-set l.others.items l.place c.steal.new.self ∙ l.invariant.size;
      tried = tried-more c.args.others.now.items l.others.items l.place c.index_mut.result.now c.steal.new.self below c.index_mut.ensures.value l.invariant.tried l.invariant.rest none;
      rest = λ i d past. get_or-set_other l.others.items l.place i c.steal.new.self d (λ this. omega (arith, this, past)) ∙ l.invariant.rest i d (omega (arith, past));
      same = tried-same c.args.others.now.items l.others.items l.place c.index_mut.result.now c.steal.new.self below c.index_mut.ensures.value l.invariant.same none.deque;
      took = omega (arith, tried-took c.args.others.now.items l.others.items l.place c.index_mut.result.now c.steal.new.self below c.index_mut.ensures.value 0 l.invariant.took (omega (arith, none.took)));
    }

pub returns : goal.returns
returns g c = zip-each FindsNone c.args.others.now.items c.loop-place.others.items c.loop-place.invariant.size (λ i d below. c.loop-place.invariant.tried i d (omega (arith, below, c.loop-place-test.false, c.loop-place.invariant.size, c.len-place-end.ensures)))
