-- The events of one hand that show a sound snapshot.
use Rattle.std.specs.Prelude.{◌≡◌, ℕ, ◌<◌, ◌==◌, ◌&&◌, ◌++◌, Bool, not, is_some, is_none, List, ◌∷◌, length, map, filter, take}
use Rattle.std.specs.List.{flat_map, list_any, range_with_len}
use Rattle.pb_taskgraph.specs.Graphs.{after_of, cells_of}
use Rattle.pb_taskgraph.specs.Plans.{Plan}
use Rattle.pb_core.specs.declared.event.Event.{Event}
use Rattle.pb_core.specs.declared.event.Event.TheVariants.{Finish, Release, Start, Write}
use Rattle.pb_core.specs.States.{first_state}
use Rattle.pb_core.specs.Events.{AllEnabled, by_number, writes}
use Rattle.pb_core.specs.Snapshots.{Snapshot}

-- the events of a finished task: its start, its writes in its own order, its finish, and its releases that aren't owed
abbrev pub finished_events : Plan → Snapshot → ℕ → List Event
finished_events p q t =
    Start 0 t ∷ (map (λ c. Write 0 c) (p.order t) ++ (Finish 0 t ∷ map (λ next. Release 0 t next) (filter (λ next. not (q.owed t next)) (after_of p.graph t))))

-- the events of an unfinished task with written cells: its start, and those writes in its own order
abbrev pub begun_events : Plan → Snapshot → ℕ → List Event
begun_events p q t = Start 0 t ∷ map (λ c. Write 0 c) (filter (λ c. is_some (q.value c)) (p.order t))

-- whether a task is unfinished and has a written cell
abbrev pub is_begun : Plan → Snapshot → ℕ → Bool
is_begun p q t = is_none (q.number t) && list_any (λ c. is_some (q.value c)) (p.order t)

-- the finished tasks by number, and then the others with written cells
abbrev pub listed_events : Plan → Snapshot → List Event
listed_events p q =
    flat_map (finished_events p q) (by_number p.graph q.number q.finished)
    ++ flat_map (begun_events p q) (filter (is_begun p q) (range_with_len 0 (length p.graph.tasks)))

-- the cells that events write of a task, in this order
abbrev pub writes_of : Plan → ℕ → List Event → List ℕ
writes_of p t events = filter (λ c. list_any (λ d. d == c) (cells_of p.graph t)) (writes events)

-- each event is enabled in its turn, and the writes of each task go by its own order, from the first cell on
pub record IsInterleaving (p : Plan) (hands : ℕ) (events : List Event) : Type 0 where
  pub enabled : AllEnabled p (first_state p hands) events
  pub order : (t : ℕ) → t < length p.graph.tasks → (k : ℕ) × (writes_of p t events ≡ take k (p.order t))

-- the written cells of each task are the first ones of its own order
abbrev pub WritesInOrder : Plan → Snapshot → Type 0
WritesInOrder p q = (t : ℕ) → t < length p.graph.tasks → (k : ℕ) × (filter (λ c. is_some (q.value c)) (p.order t) ≡ take k (p.order t))
