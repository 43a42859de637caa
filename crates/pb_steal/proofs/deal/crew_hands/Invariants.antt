use Rattle.std.proofs.Common.{◌≡◌, ℕ, ◌<◌, [], drop, get_or, length, map, take}
use Rattle.pb_steal.specs.Crews.{IsDealt, own_deques}
use Rattle.pb_steal.specs.Deques.{OwnValue}
use Rattle.pb_steal.specs.Hands.{CrewHandValue}
use Rattle.pb_steal.proofs.deal.crew_hands.Given as goal

abbrev pub invariant-loop-place : goal.invariant-loop-place
invariant-loop-place g l = record {
  seats : l.seats.items ≡ drop l.place l.fn.seats.items;
  owns : l.owns.items ≡ drop l.place l.fn.owns.items;
  size : length l.hands.items ≡ l.place;
  deques : own_deques l.hands.items ≡ take l.place (map (λ (o : OwnValue). o.deque) l.fn.owns.items);
  each : (number : ℕ) (d : CrewHandValue) → number < l.place → IsDealt [] (map (λ (o : OwnValue). o.deque) l.fn.owns.items) (get_or l.hands.items number d) number;
}
