-- A run over the listed events of a sound snapshot.
use Rattle.std.proofs.Common.{◌≡◌, sym, subst, ℕ, zero, suc, List, [], ◌∷◌, take, Some, None, Result, Ok, Err, slice_get}
use Rattle.pb_taskgraph.specs.Plans.{IsPlan, Plan}
use Rattle.pb_core.specs.declared.event.Event.{Event}
use Rattle.pb_core.specs.declared.event.EventsRefusal.{EventsRefusal}
use Rattle.pb_core.specs.declared.event.EventsRefusal.TheVariants.{Memory, NotEnabled}
use Rattle.pb_core.specs.States.{Enabled, State, first_state, happens}
use Rattle.pb_core.specs.Events.{AllEnabled, all_happen}
use Rattle.pb_core.specs.Cores.{CoreValue}
use Rattle.pb_core.specs.Listed.{listed_events}
use Rattle.pb_core.specs.Runs.{Runs, ShowsIt}
use Rattle.pb_core.specs.Snapshots.{IsSoundSnapshot, Shows, Snapshot}
use Rattle.pb_core.proofs.ListedLemmas.{listed-enabled, listed-shows}

-- each event of a list is enabled in its turn
enabled-at : (p : Plan) (es : List Event) (at : ℕ) (e : Event) (s : State) → slice_get es at ≡ Some e → AllEnabled p s es → Enabled p (all_happen p s (take at es)) e
enabled-at p [] at e s is all = let wrong : None ≡ Some e = is in absurd (cc)
enabled-at p (d ∷ es) zero e s is all = let same : d ≡ e = cc in subst (λ (x : Event). Enabled p s x) same all.0
enabled-at p (d ∷ es) (suc at) e s is all = enabled-at p es at e (happens p s d) is all.1

pub run-shows : (p : Plan) (q : Snapshot) (run : Result CoreValue EventsRefusal) → IsPlan p → IsSoundSnapshot p q → Runs p 1 (listed_events p q) run → ShowsIt p q run
run-shows p q (Ok core) plan good runs = subst (λ (s : State). Shows p s q) (sym runs.1) (listed-shows p plan q good)
run-shows p q (Err (NotEnabled at)) plan good runs = runs.3 (enabled-at p (listed_events p q) at runs.0 (first_state p 1) runs.1 (listed-enabled p plan q good))
run-shows p q (Err Memory) plan good runs = tt
