-- A run over a list of events.
use Rattle.std.proofs.Common.{◌≡◌, ◌∙◌, sym, ap, subst, ℕ, ◌+◌, ◌<◌, List, [], ◌∷◌, ◌++◌, length, take, get_or}
use Rattle.std.proofs.lemmas.List.{take_more}
use Rattle.pb_taskgraph.specs.Plans.{Plan}
use Rattle.pb_core.specs.declared.event.Event.{Event}
use Rattle.pb_core.specs.States.{Enabled, State, happens}
use Rattle.pb_core.specs.Events.{AllEnabled, all_happen}
use Rattle.pb_core.proofs.StateLemmas.{enabled-more, happen-more}

module _ (p : Plan) (first : State) (events : List Event) (at : ℕ) (d : Event) (below : at < length events) (old : State) (state : old ≡ all_happen p first (take at events)) where
  abbrev e : Event
  e = get_or events at d

  more : take (at + 1) events ≡ take at events ++ e ∷ []
  more = take_more events at d below

  pub run-enabled : AllEnabled p first (take at events) → Enabled p old e → AllEnabled p first (take (at + 1) events)
  run-enabled all enabled = subst (λ (l : List Event). AllEnabled p first l) (sym more) (enabled-more p (take at events) e first all (subst (λ (s : State). Enabled p s e) state enabled))

  pub run-state : (new : State) → new ≡ happens p old e → new ≡ all_happen p first (take (at + 1) events)
  run-state new step = step ∙ ap (λ (s : State). happens p s e) state ∙ sym (happen-more p (take at events) e first) ∙ ap (λ (l : List Event). all_happen p first l) (sym more)
