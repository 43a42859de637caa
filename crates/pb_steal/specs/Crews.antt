-- The hands of a crew before any turn.
use Rattle.std.specs.Prelude.{◌≡◌, ℕ, ◌+◌, ◌<◌, ◌≤◌, ◌%◌, ◌==◌, if◌then◌else◌, false, List, [], ◌∷◌, ◌++◌, length, map, drop, take, slice_index_or}
use Rattle.atomic_blocks.specs.Lent.{RowsId}
use Rattle.atomic_table.specs.Seated.{TableId}
use Rattle.pb_cells.specs.Ends.{KnowsAll}
use Rattle.pb_cells.specs.Handles.{HandValue, new_hand}
use Rattle.pb_steal.specs.Deques.{OwnValue, SourceValue}
use Rattle.pb_steal.specs.Hands.{CrewHandValue}

-- the tasks at the places whose remainder by so many hands is the number of a hand; the first one is at this place
abbrev pub dealt_from : ℕ → ℕ → ℕ → List ℕ → List ℕ
dealt_from place hands number [] = []
dealt_from place hands number (t ∷ ts) = if place % hands == number then t ∷ dealt_from (place + 1) hands number ts else dealt_from (place + 1) hands number ts

-- the tasks that are dealt to a hand: the k-th, from 0, to hand k modulo the number of hands
abbrev pub dealt_to : ℕ → ℕ → List ℕ → List ℕ
dealt_to hands number tasks = dealt_from 0 hands number tasks

-- the deques of some sources, and of some hands
abbrev pub deques_of : List SourceValue → List RowsId
deques_of sources = map (λ s. s.deque) sources

abbrev pub own_deques : List CrewHandValue → List RowsId
own_deques hands = map (λ h. h.own.deque) hands

-- all but the one at a place, beginning after it
abbrev pub others_after : {A : Type 0} → ℕ → List A → List A
others_after number all = drop (number + 1) all ++ take number all

-- a deque on which nothing was pushed, with room for so many pushes
pub record IsEmpty (room : ℕ) (own : OwnValue) : Type 0 where
  pub pushed : own.pushed ≡ []
  pub took : own.took ≡ 0
  pub room_is : own.room ≡ room

-- a hand to which these tasks were dealt, before any turn: it steals from the deques of all others, beginning after its own number
pub record IsDealt (tasks : List ℕ) (deques : List RowsId) (hand : CrewHandValue) (number : ℕ) : Type 0 where
  pub seat : hand.seat ≡ new_hand hand.seat.table
  pub ran : hand.ran ≡ []
  pub pushed : hand.own.pushed ≡ dealt_to (length deques) number tasks
  pub others : deques_of hand.others ≡ others_after number deques
  pub done : hand.done ≡ false

-- so many hands to which these tasks were dealt
pub record AreDealtTo (tasks : List ℕ) (deques : List RowsId) (hands : List CrewHandValue) : Type 0 where
  pub deques_are : own_deques hands ≡ deques
  pub each : (number : ℕ) (d : CrewHandValue) → number < length hands → IsDealt tasks deques (slice_index_or hands number d) number

-- there is one seat, at this table, that has seen so many tasks filed and knows what each of some seats does
pub record IsOneOf (most : ℕ) (name : TableId) (seats : List HandValue) (ones : List HandValue) : Type 0 where
  pub all : HandValue
  pub one : ones ≡ all ∷ []
  pub table : all.table ≡ name
  pub seen : most ≤ all.seen
  pub knows : KnowsAll seats all
