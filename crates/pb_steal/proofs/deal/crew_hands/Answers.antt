use Rattle.std.proofs.Common.{◌≡◌, ◌∙◌, ◌+◌, ◌<◌, ◌≤◌, ◌++◌, ◌∷◌, [], ℕ, List, ap, arith, get_or, length, map, subst, sym}
use Rattle.std.proofs.lemmas.List.{length-append, length-map, take_all}
use Rattle.atomic_blocks.specs.Lent.{RowsId}
use Rattle.pb_taskgraph.specs.Graphs.{after_of}
use Rattle.pb_taskgraph.specs.Plans.{Plan}
use Rattle.pb_cells.specs.Handles.{HandValue}
use Rattle.pb_steal.specs.Crews.{IsDealt, IsEmpty, deques_of, others_after, own_deques}
use Rattle.pb_steal.specs.Deques.{OwnValue, SourceValue}
use Rattle.pb_steal.specs.Hands.{CrewHandValue}
use Rattle.pb_steal.proofs.DealLemmas.{deque-more, first-left, hand-more, own-at, removed}
use Rattle.pb_steal.proofs.deal.crew_hands.Goals as goal

pub new-requires-clause-own : goal.new-requires-clause-own
new-requires-clause-own g c κs within =
    let owns : List OwnValue = c.args.owns.items in
    let l = c.loop-place in
    let below : l.place < length owns = omega (arith, c.loop-place-test.true, c.len-place-end.ensures, ap length c.in_ok-sources.ensures, length-map owns (λ (o : OwnValue). o.deque), length-map c.in_ok-sources.sources.items (λ (s : SourceValue). s.deque)) in
    subst (IsEmpty (length g.N.NamesWork.plan.graph.tasks)) (sym (first-left owns l.owns.items l.place c.remove-own.result l.invariant.owns c.remove-own.ensures.value)) (c.requires.owns l.place c.remove-own.result below)

pub new-requires-clause-widest : goal.new-requires-clause-widest
new-requires-clause-widest g c κs within t = subst (λ (p : Plan). length (after_of p.graph t) ≤ c.most_successors-widest.result) c.requires.name (c.most_successors-widest.ensures t)

pub loop-place-preserved : goal.loop-place-preserved
loop-place-preserved g c =
    let owns : List OwnValue = c.args.owns.items in
    let seats : List HandValue = c.args.seats.items in
    let ds : List RowsId = map (λ (o : OwnValue). o.deque) owns in
    let l = c.loop-place in
    let k : ℕ = l.place in
    let size = length-map owns (λ (o : OwnValue). o.deque) in
    let sources : length (deques_of c.in_ok-sources.sources.items) ≡ length ds = ap length c.in_ok-sources.ensures in
    let below : k < length owns = omega (arith, c.loop-place-test.true, c.len-place-end.ensures, sources, size, length-map c.in_ok-sources.sources.items (λ (s : SourceValue). s.deque)) in
    let own : OwnValue = c.remove-own.result in
    let hand : CrewHandValue = c.in_ok-new.field-0 in
    let items : c.push.new.self.items ≡ l.hands.items ++ hand ∷ [] = c.in_ok-push.ensures.items in
    let at : own ≡ get_or owns k own = first-left owns l.owns.items k own l.invariant.owns c.remove-own.ensures.value in
    let none : own.pushed ≡ [] = ap (λ (o : OwnValue). o.pushed) at ∙ (c.requires.owns k own below).pushed in
    record {
      seats = removed seats l.seats.items c.remove-seat.new.self.items k c.remove-seat.result (omega (arith, below, c.requires.size)) l.invariant.seats c.remove-seat.ensures.by_index.2;
      owns = removed owns l.owns.items c.remove-own.new.self.items k own below l.invariant.owns c.remove-own.ensures.by_index.2;
      size = ap length items ∙ length-append l.hands.items (hand ∷ []) ∙ ap (λ n. n + 1) l.invariant.size;
      deques = ap own_deques items
          ∙ deque-more (λ (h : CrewHandValue). h.own.deque) l.hands.items hand ds k (omega (arith, below, size)) l.invariant.deques
          (own-at owns k own hand.own.deque below at (ap (λ (h : CrewHandValue). h.own.deque) c.in_ok-new.ensures));
      each = λ number d within. subst (λ (hs : List CrewHandValue). IsDealt [] ds (get_or hs number d) number) (sym items)
          (hand-more ds l.hands.items k g.B.NamesTable.table own c.in_ok-others.others.items hand l.invariant.size c.in_ok-new.ensures none
          (c.in_ok-others.ensures.deques ∙ ap (others_after k) c.in_ok-sources.ensures) l.invariant.each number d within);
    }

pub returns-clause-size : goal.returns-clause-size
returns-clause-size g c =
    let size = length-map c.args.owns.items (λ (o : OwnValue). o.deque) in
    let sources = ap length c.in_ok-sources.ensures in
    omega (arith, c.loop-place.invariant.size, c.loop-place-test.false, c.loop-place.auto.place-end, c.len-place-end.ensures, sources, size, c.requires.size, length-map c.in_ok-sources.sources.items (λ (s : SourceValue). s.deque))

pub returns-clause-dealt : goal.returns-clause-dealt
returns-clause-dealt g c =
    let ds : List RowsId = map (λ (o : OwnValue). o.deque) c.args.owns.items in
    let sources : length (deques_of c.in_ok-sources.sources.items) ≡ length ds = ap length c.in_ok-sources.ensures in
    record {
      deques_are = c.loop-place.invariant.deques ∙ take_all c.loop-place.place ds (omega (arith, c.loop-place-test.false, c.len-place-end.ensures, sources, length-map c.in_ok-sources.sources.items (λ (s : SourceValue). s.deque)));
      each = λ number d within. c.loop-place.invariant.each number d (omega (arith, within, c.loop-place.invariant.size));
    }
