use Rattle.std.proofs.Common.{refl, true, sym, ◌∙◌, arith}
use Rattle.std.specs.List.{Contains}
use Rattle.pb_layers.specs.Graphs.{IsMarked, Out}
use Rattle.pb_layers.proofs.TakenLemmas.{IsRound, all-as, contains-as, down-inside, filled-as, list-inside, marked-as, reached-as, round-clear_again, round-fewer, round-left_again, round-taken, start-ahead, up-inside}
use Rattle.pb_layers.proofs.components.take_component.Goals as goal

pub reached-requires-clause-inside : goal.reached-requires-clause-inside
reached-requires-clause-inside c = down-inside _ c.args.graph.now.down.items c.args.graph.now.up.items _ c.requires.turned c.deref.ensures.value

pub fill-requires : goal.fill-requires
fill-requires c = list-inside (Out c.args.graph.now.down.items) c.args.left.now.items _ _ _ c.there.there.items _ _ c.there.invariant.reached c.deref-in-there.ensures.value c.there.invariant.room

pub reached-requires-in-there-clause-inside : goal.reached-requires-in-there-clause-inside
reached-requires-in-there-clause-inside c = λ u v out.
    let below = up-inside _ c.args.graph.now.down.items c.args.graph.now.up.items _ c.requires.turned c.deref-in-there-2.ensures.value u v out in
    omega (arith, c.fill.ensures.room, c.there.invariant.room)

pub reached-requires-in-there-clause-start : goal.reached-requires-in-there-clause-start
reached-requires-in-there-clause-start c = start-ahead c.args.graph.now.down.items c.args.left.now.items _ c.there.ahead.items _ _ c.there.there.items c.there.invariant.room c.there.invariant.reached (filled-as _ _ _ c.there.there.items _ c.deref-in-there.ensures.value c.fill.ensures)

pub first_marked-requires : goal.first_marked-requires
first_marked-requires c =
    list-inside (Out c.args.graph.now.down.items) c.args.left.now.items _ _ _ c.there.there.items _ _ c.there.invariant.reached c.deref-in-there-4.ensures.value
    (omega (arith, c.deref-in-there-3.ensures.len, c.reached-in-there.new.within.ok.0, c.in_ok-back.ensures.room, c.fill.ensures.room, c.there.invariant.room))

pub returns-in_default-clause-taken : goal.returns-in_default-clause-taken
returns-in_default-clause-taken c =
    let there = filled-as _ _ _ c.there.there.items true c.deref-in-there.ensures.value c.fill.ensures in
    let round : IsRound c.args.graph.now.down.items c.args.graph.now.up.items c.args.left.now.items c.there.left.items c.there.ahead.items c.fill.new.values.items c.reached-in-there.new.within.items c.there.from c.there.there.items c.in_ok-back.back.items = record {
      turned = c.requires.turned;
      closed = c.requires.closed;
      room = c.there.invariant.room;
      none = c.there.invariant.clear;
      there_is = c.there.invariant.reached;
      filled = there;
      back_is = reached-as _ c.args.graph.now.up.items _ c.fill.new.values.items _ _ _ _ c.deref-in-there-2.ensures.value refl c.in_ok-back.ensures;
    } in
    round-taken _ _ _ _ _ _ _ _ _ _ round (all-as _ c.reached-in-there.new.within.items _ c.there.there.items c.deref-in-there-3.ensures.value c.deref-in-there-4.ensures.value c.in_default.ensures)

pub fill-requires-in-there : goal.fill-requires-in-there
fill-requires-in-there c =
    list-inside (Out c.args.graph.now.down.items) c.args.left.now.items _ _ _ c.there.there.items _ _ c.there.invariant.reached c.deref-in-there-5.ensures.value
    (omega (arith, c.in_ok-back.ensures.room, c.fill.ensures.room, c.there.invariant.room))

pub fill-requires-in-there-2 : goal.fill-requires-in-there-2
fill-requires-in-there-2 c =
    list-inside (Out c.args.graph.now.down.items) c.args.left.now.items _ _ _ c.there.there.items _ _ c.there.invariant.reached c.deref-in-there-6.ensures.value c.there.invariant.reached.room

pub reached-requires-in-there-2-clause-inside : goal.reached-requires-in-there-2-clause-inside
reached-requires-in-there-2-clause-inside c = λ u v out.
    let below = down-inside _ c.args.graph.now.down.items c.args.graph.now.up.items _ c.requires.turned c.deref-in-there-7.ensures.value u v out in
    omega (arith, c.fill-in-there-2.ensures.room, c.there.invariant.reached.room)

pub reached-requires-in-there-2-clause-start : goal.reached-requires-in-there-2-clause-start
reached-requires-in-there-2-clause-start c =
    let there = filled-as _ _ _ c.there.there.items true c.deref-in-there.ensures.value c.fill.ensures in
    let round : IsRound c.args.graph.now.down.items c.args.graph.now.up.items c.args.left.now.items c.there.left.items c.there.ahead.items c.fill.new.values.items c.reached-in-there.new.within.items c.there.from c.there.there.items c.in_ok-back.back.items = record {
      turned = c.requires.turned;
      closed = c.requires.closed;
      room = c.there.invariant.room;
      none = c.there.invariant.clear;
      there_is = c.there.invariant.reached;
      filled = there;
      back_is = reached-as _ c.args.graph.now.up.items _ c.fill.new.values.items _ _ _ _ c.deref-in-there-2.ensures.value refl c.in_ok-back.ensures;
    } in
    let other : IsMarked c.reached-in-there.new.within.items c.in-Some.other × Contains c.there.there.items c.in-Some.other =
    (marked-as _ _ c.in-Some.other c.deref-in-there-3.ensures.value c.in-Some.ensures.0, contains-as _ _ c.in-Some.other c.deref-in-there-4.ensures.value c.in-Some.ensures.1) in
    let left = round-left_again _ _ _ _ _ _ _ _ _ _ round c.fill-in-there-2.new.values.items (filled-as _ _ _ c.there.there.items true c.deref-in-there-6.ensures.value c.fill-in-there-2.ensures) in
    marked-as _ _ c.in-Some.other (sym left) (c.there.invariant.reached.taken c.in-Some.other other.1)

pub there-smaller : goal.there-smaller
there-smaller c =
    let there = filled-as _ _ _ c.there.there.items true c.deref-in-there.ensures.value c.fill.ensures in
    let round : IsRound c.args.graph.now.down.items c.args.graph.now.up.items c.args.left.now.items c.there.left.items c.there.ahead.items c.fill.new.values.items c.reached-in-there.new.within.items c.there.from c.there.there.items c.in_ok-back.back.items = record {
      turned = c.requires.turned;
      closed = c.requires.closed;
      room = c.there.invariant.room;
      none = c.there.invariant.clear;
      there_is = c.there.invariant.reached;
      filled = there;
      back_is = reached-as _ c.args.graph.now.up.items _ c.fill.new.values.items _ _ _ _ c.deref-in-there-2.ensures.value refl c.in_ok-back.ensures;
    } in
    let other : IsMarked c.reached-in-there.new.within.items c.in-Some.other × Contains c.there.there.items c.in-Some.other =
    (marked-as _ _ c.in-Some.other c.deref-in-there-3.ensures.value c.in-Some.ensures.0, contains-as _ _ c.in-Some.other c.deref-in-there-4.ensures.value c.in-Some.ensures.1) in
    let left = round-left_again _ _ _ _ _ _ _ _ _ _ round c.fill-in-there-2.new.values.items (filled-as _ _ _ c.there.there.items true c.deref-in-there-6.ensures.value c.fill-in-there-2.ensures) in
    let next = reached-as _ c.args.graph.now.down.items _ c.args.left.now.items _ _ _ _ c.deref-in-there-7.ensures.value left c.in_ok-there-2.ensures in
    round-fewer _ _ _ _ _ _ _ _ _ _ round c.in-Some.other _ _ other.1 other.0 next

pub there-preserved : goal.there-preserved
there-preserved c =
    let there = filled-as _ _ _ c.there.there.items true c.deref-in-there.ensures.value c.fill.ensures in
    let round : IsRound c.args.graph.now.down.items c.args.graph.now.up.items c.args.left.now.items c.there.left.items c.there.ahead.items c.fill.new.values.items c.reached-in-there.new.within.items c.there.from c.there.there.items c.in_ok-back.back.items = record {
      turned = c.requires.turned;
      closed = c.requires.closed;
      room = c.there.invariant.room;
      none = c.there.invariant.clear;
      there_is = c.there.invariant.reached;
      filled = there;
      back_is = reached-as _ c.args.graph.now.up.items _ c.fill.new.values.items _ _ _ _ c.deref-in-there-2.ensures.value refl c.in_ok-back.ensures;
    } in
    let left = round-left_again _ _ _ _ _ _ _ _ _ _ round c.fill-in-there-2.new.values.items (filled-as _ _ _ c.there.there.items true c.deref-in-there-6.ensures.value c.fill-in-there-2.ensures) in
    let next = reached-as _ c.args.graph.now.down.items _ c.args.left.now.items _ _ _ _ c.deref-in-there-7.ensures.value left c.in_ok-there-2.ensures in
    record {
      reached = next;
      room = c.fill-in-there.ensures.room ∙ c.in_ok-back.ensures.room ∙ c.fill.ensures.room ∙ c.there.invariant.room;
      clear = round-clear_again _ _ _ _ _ _ _ _ _ _ round _ (filled-as _ _ _ c.there.there.items _ c.deref-in-there-5.ensures.value c.fill-in-there.ensures);
    }
