-- The words of a table in which all tasks are filed.
use Rattle.std.specs.Prelude.{◌≡◌, ℕ, ◌<◌, ◌≤◌, List, length, Some, slice_get}
use Rattle.std.specs.List.{Contains}
use Rattle.atomic_table.specs.Table as table
use Rattle.pb_taskgraph.specs.Plans.{Plan}
use Rattle.pb_cells.specs.declared.view.View.{View}
use Rattle.pb_cells.specs.Banks.{bank_of}
use Rattle.pb_cells.specs.Handles.{HandValue}
use Rattle.pb_cells.specs.Stories.{Holds}

-- the words of a state that meets the rule and in which all tasks are filed
pub record AreLast (p : Plan) (words : List ℕ) : Type 0 where
  pub state : table.State (Unit {0}) View
  pub holds : Holds p state
  pub words_are : state.words ≡ words
  pub filed : (bank_of p.graph words).filed ≡ length p.graph.tasks

-- each of the first tasks stands at the place of the finish number that is stored for it
abbrev pub StandByNumber : Plan → List ℕ → ℕ → List ℕ → Type 0
StandByNumber p words first order = (t : ℕ) → t < first → slice_get order ((bank_of p.graph words).number t) ≡ Some t

-- an order has each task that a Hand has taken in at the place of the number that was drawn for it
abbrev pub HasItsNumbers : List ℕ → HandValue → Type 0
HasItsNumbers order hand = (t n : ℕ) → Contains hand.ran (t, n) → slice_get order n ≡ Some t

-- it has those of each of some Hands there
abbrev pub HasAllNumbers : List HandValue → List ℕ → Type 0
HasAllNumbers hands order = (hand : HandValue) → Contains hands hand → HasItsNumbers order hand

-- one of some Hands has seen so many filed tasks
abbrev pub SomeHas : List HandValue → ℕ → Type 0
SomeHas hands n = (hand : HandValue) × Contains hands hand × (n ≤ hand.seen)

-- a Hand knows what another one does: the tasks that it has taken in, and how many filed ones it has seen
pub record Knows (all hand : HandValue) : Type 0 where
  pub ran : (t n : ℕ) → Contains hand.ran (t, n) → Contains all.ran (t, n)
  pub seen : hand.seen ≤ all.seen

-- it knows what each of some Hands does
abbrev pub KnowsAll : List HandValue → HandValue → Type 0
KnowsAll hands all = (hand : HandValue) → Contains hands hand → Knows all hand
