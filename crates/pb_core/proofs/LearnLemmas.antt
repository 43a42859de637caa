-- Outcomes that are learned by running tasks.
use Rattle.std.proofs.Common.{◌≡◌, ◌∙◌, refl, sym, ap, subst, ⊎_elim, ℕ, Bool, true, false, List, length, get_or, slice_set, length-set, slice_get}
use Rattle.std.specs.List.{Contains}
use Rattle.std.proofs.lemmas.Bool.{cases_eq}
use Rattle.std.proofs.lemmas.List.{get_or-set_other}
use Rattle.pb_values.specs.declared.outcome.Outcome.{Outcome}
use Rattle.pb_values.specs.Cells.{Turn}
use Rattle.pb_taskgraph.specs.Graphs.{cells_of}
use Rattle.pb_taskgraph.specs.Plans.{IsPlan, Plan}
use Rattle.pb_taskgraph.specs.Serial.{SerialValue, serial_turn}
use Rattle.pb_taskgraph.specs.Turns.{Begins, after_all, entries_of, with_outcomes}
use Rattle.pb_taskgraph.proofs.TurnLemmas.{with-in, with-kept}
use Rattle.pb_core.specs.Cores.{AreLearned, CanRun, HasRun}

module _ (p : Plan) (is : IsPlan p) (t : ℕ) (outcomes : List Outcome) (can : CanRun p t outcomes) where
  abbrev start : SerialValue
  start = record { task = t; written = 0; outcomes = outcomes }

  pub learn-begins : Begins p t (serial_turn p start)
  unfolding serial_turn
  learn-begins = record { task = refl; inputs = can.inputs; before = can.before; left = refl }

  pub learn-done : (after : SerialValue) (new : List Outcome) → serial_turn p after ≡ after_all (serial_turn p start) → new ≡ after.outcomes → length new ≡ p.graph.cells → HasRun p t outcomes new
  unfolding serial_turn after_all
  learn-done after new ended same room = record {
    room = room;
    own = λ c own. told c ∙ with-in p.solution (p.order t) (slice_get outcomes) c ((is.listed t c can.task).1 own);
    kept = λ c before. told c ∙ with-kept p.solution (p.order t) (slice_get outcomes) c before;
  }
    where
      told : (c : ℕ) → slice_get new c ≡ with_outcomes (slice_get outcomes) (entries_of p.solution (p.order t)) c
      told c = ap (λ l. slice_get l c) same ∙ ap (λ (turn : Turn). turn.outcomes c) ended

module _ (p : Plan) (t : ℕ) (ran : List Bool) (outcomes : List Outcome) (learned : AreLearned p ran outcomes) where
  pub learn-again : get_or ran t false ≡ true → HasRun p t outcomes outcomes
  learn-again run = record { room = learned.room; own = λ c own. learned.run t c run own; kept = λ c told. told }

  pub learn-more : (new : List Outcome) → HasRun p t outcomes new → AreLearned p (slice_set ran t true) new
  learn-more new has = record {
    room = has.room;
    tasks = length-set ran t true ∙ learned.tasks;
    run = λ u c run own. ⊎_elim
        (λ (same : u ≡ t). has.own c (subst (λ w. Contains (cells_of p.graph w) c) same own))
        (λ (other : u ≡ t → ⊥). has.kept c (learned.run u c (sym (get_or-set_other ran t u true false other) ∙ run) own))
        (cases_eq u t);
  }
