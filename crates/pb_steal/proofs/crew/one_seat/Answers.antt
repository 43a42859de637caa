use Rattle.std.proofs.Common.{◌≡◌, ◌∙◌, ◌++◌, ◌∷◌, ◌⊎◌, ⊎_elim, List, [], inl, inr, map, sym, ap, subst, true, arith}
use Rattle.std.specs.List.{Contains}
use Rattle.std.proofs.lemmas.List.Elements.{All-contains, Contains-append_left, Contains-push}
use Rattle.std.proofs.lemmas.List.{length-map}
use mathlib.Core.List.{map-append}
use Rattle.pb_cells.specs.Ends.{Knows}
use Rattle.pb_cells.specs.Handles.{HandValue, gathered}
use Rattle.pb_cells.proofs.EndLemmas.{gathered-knows, gathered-other, knows-itself, left-or}
use Rattle.pb_steal.specs.Hands.{CrewHandValue}
use Rattle.pb_steal.proofs.crew.one_seat.Goals as goal

abbrev seats : List CrewHandValue → List HandValue
seats hands = map (λ h. h.seat) hands

-- a seat is one of those that are left, or that of the last hand
seat-or : (hands rest : List CrewHandValue) (last : CrewHandValue) (seat : HandValue) → hands ≡ rest ++ last ∷ [] → Contains (seats hands) seat → Contains (seats rest) seat ⊎ (last.seat ≡ seat)
seat-or hands rest last seat is h = left-or (seats hands) (seats rest) last.seat seat (ap seats is ∙ map-append (λ (h : CrewHandValue). h.seat) rest (last ∷ [])) h

pub into_seat-seat-requires-after_bounds : goal.into_seat-seat-requires-after_bounds
into_seat-seat-requires-after_bounds g c κs within =
    let hand = c.in-Some.hand in
    All-contains (λ (h : CrewHandValue). h.done ≡ true) c.args.hands.items hand c.requires.done (subst (λ l. Contains l hand) (sym c.in-Some.ensures.items) (Contains-push c.pop.new.self.items hand))

pub loop-hand-init : goal.loop-hand-init
loop-hand-init g c =
    let hand = c.in-Some.hand in
    let rest = c.pop.new.self.items in
    let all = c.into_seat-seat.ensures.seat in record {
      table = ap (λ (s : HandValue). s.table) all ∙ c.into_seat-seat.ensures.table;
      seen = let is = ap (λ (s : HandValue). s.seen) all ∙ c.into_seat-seat.ensures.seen in omega arith;
      done = λ other h. All-contains (λ (h : CrewHandValue). h.done ≡ true) c.args.hands.items other c.requires.done (subst (λ l. Contains l other) (sym c.in-Some.ensures.items) (Contains-append_left rest _ other h));
      known = λ seat h. ⊎_elim
          (λ (left : Contains (seats rest) seat). inl left)
          (λ (same : hand.seat ≡ seat). inr (subst (Knows c.into_seat-seat.result.0) (all ∙ same) (knows-itself c.into_seat-seat.result.0)))
          (seat-or c.args.hands.items rest hand seat c.in-Some.ensures.items h);
      empty = c.into_seat-seat.ensures.room.0;
      room = c.into_seat-seat.ensures.room.1;
    }

pub into_seat-seat-requires-in-Some-pop-after_bounds : goal.into_seat-seat-requires-in-Some-pop-after_bounds
into_seat-seat-requires-in-Some-pop-after_bounds g c κs within =
    let hand = c.in-Some-pop.hand in
    c.loop-hand.invariant.done hand (subst (λ l. Contains l hand) (sym c.in-Some-pop.ensures.items) (Contains-push c.pop-in-loop-hand.new.self.items hand))

pub loop-hand-preserved : goal.loop-hand-preserved
loop-hand-preserved g c =
    let hand = c.in-Some-pop.hand in
    let rest = c.pop-in-loop-hand.new.self.items in
    let all = c.loop-hand.all in
    let other = c.into_seat-seat-in-Some-pop.result.0 in record {
      table = ap (λ (h : HandValue). h.table) c.gather.ensures ∙ c.loop-hand.invariant.table;
      seen = let was = c.loop-hand.invariant.seen in let is = ap (λ (h : HandValue). h.seen) c.gather.ensures in omega arith;
      done = λ one h. c.loop-hand.invariant.done one (subst (λ l. Contains l one) (sym c.in-Some-pop.ensures.items) (Contains-append_left rest _ one h));
      known = λ seat h. ⊎_elim
          (λ (there : Contains (seats c.loop-hand.hands.items) seat). ⊎_elim
          (λ (left : Contains (seats rest) seat). inl left)
          (λ (same : hand.seat ≡ seat). inr (subst (λ a. Knows a seat) (sym c.gather.ensures) (subst (Knows (gathered all other)) (c.into_seat-seat-in-Some-pop.ensures.seat ∙ same) (gathered-other all other))))
          (seat-or c.loop-hand.hands.items rest hand seat c.in-Some-pop.ensures.items there))
          (λ (knows : Knows all seat). inr (subst (λ a. Knows a seat) (sym c.gather.ensures) (gathered-knows all other seat knows)))
          (c.loop-hand.invariant.known seat h);
      empty = c.loop-hand.invariant.empty;
      room = c.loop-hand.invariant.room;
    }

pub returns : goal.returns
returns g c =
    let all = c.loop-hand.all in record {
      all = all;
      one = c.push_reserved.ensures.items ∙ ap (λ l. l ++ all ∷ []) c.loop-hand.invariant.empty;
      table = c.loop-hand.invariant.table;
      seen = c.loop-hand.invariant.seen;
      knows = λ seat h. ⊎_elim
          (λ (left : Contains (seats c.loop-hand.hands.items) seat). let same = length-map {A = CrewHandValue} {B = HandValue} c.loop-hand.hands.items (λ h. h.seat) in absurd (omega (arith, left.1, same, c.in_default-pop.ensures.cases.0, c.loop-hand.hands.ok.0)))
          (λ (knows : Knows all seat). knows)
          (c.loop-hand.invariant.known seat h);
    }
