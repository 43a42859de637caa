-- Runs of the machine over a list of events.
use Rattle.std.specs.Prelude.{◌≡◌, ℕ, List, slice_get, take, Some, Result, Ok, Err}
use Rattle.pb_taskgraph.specs.Plans.{Plan}
use Rattle.pb_core.specs.declared.event.Event.{Event}
use Rattle.pb_core.specs.declared.event.EventsRefusal.{EventsRefusal}
use Rattle.pb_core.specs.declared.event.EventsRefusal.TheVariants.{Memory, NotEnabled}
use Rattle.pb_core.specs.States.{Enabled, first_state}
use Rattle.pb_core.specs.Events.{AllEnabled, all_happen}
use Rattle.pb_core.specs.Cores.{CoreValue, state_of}
use Rattle.pb_core.specs.Snapshots.{Shows, Snapshot}

-- How a list of events ends: all happened; or the first that isn't enabled is at this place, and those before it are.
abbrev pub Runs : Plan → ℕ → List Event → Result CoreValue EventsRefusal → Type 0
Runs p hands events (Ok core) = AllEnabled p (first_state p hands) events × (state_of p core ≡ all_happen p (first_state p hands) events)
Runs p hands events (Err (NotEnabled at)) =
    (e : Event) × (slice_get events at ≡ Some e) × AllEnabled p (first_state p hands) (take at events) × (Enabled p (all_happen p (first_state p hands) (take at events)) e → ⊥)
Runs p hands events (Err Memory) = Unit {0}

-- how a run over the listed events of a snapshot ends: its state shows the snapshot, unless there is no memory
abbrev pub ShowsIt : Plan → Snapshot → Result CoreValue EventsRefusal → Type 0
ShowsIt p q (Ok core) = Shows p (state_of p core) q
ShowsIt p q (Err (NotEnabled at)) = ⊥
ShowsIt p q (Err Memory) = Unit {0}
